-- Stores and nests ask for no more words of code than their share in the weight gives them.
use Rattle.std.proofs.Common.{◌≡◌, ℕ, suc, ◌+◌, ◌*◌, ◌-◌, ◌≤◌, Bool, true, false, List, [], ◌∷◌, length, Option, Some, None, refl, sym, subst, arith}
use Rattle.std.proofs.Common.{length-append}
use Rattle.std.specs.Prelude.{cond, is_some, slice_get}
use Rattle.halide_pipeline.specs.declared.definitions.Func.{Func}
use Rattle.halide_pipeline.specs.declared.definitions.Update.{Update}
use Rattle.halide_pipeline.specs.declared.expressions.Expr.{Expr}
use Rattle.halide_pipeline.specs.declared.expressions.Variable.{Variable}
use Rattle.halide_pipeline.specs.declared.expressions.Variable.TheVariants as variables
use Rattle.halide_pipeline.specs.WellFormed.{dimensions, IsWellFormed, keeps, keeps_index, is_read, is_argument, is_update_variable}
use Rattle.halide_pipeline.specs.Pipelines.{Pipeline}
use Rattle.std.proofs.lemmas.Bool.{and_parts}
use Rattle.schedule_lines.specs.declared.stages.Loop.{Loop}
use Rattle.schedule_lines.specs.declared.stages.LoopId.{LoopId}
use Rattle.schedule_lines.specs.declared.stages.LoopId.TheVariants as ids
use Rattle.schedule_lines.specs.declared.stages.Split.{Split}
use Rattle.schedule_lines.specs.declared.stages.Stage.{Stage}
use Rattle.schedule_lines.specs.Directives.{same_id}
use Rattle.schedule_lines.specs.Making.{total}
use Rattle.schedule.specs.Plans.{with_loop, with_second}
use Rattle.schedule_loops.specs.Stages.{has_variable, first_loops, IsStageOf}
use Rattle.schedule_loops.proofs.FirstLoops.{plain, there, update_start}
use Rattle.schedule_loops.proofs.Making.{Stays, by_making, split_by, total_parts, bare_total}
use Rattle.schedule_loops.proofs.Nesting.{has_id}
use Rattle.bounds_inlining.specs.Inlining.{flagged, counting}
use Rattle.bounds_weights.specs.Weight.{nodes_in, second_nodes, update_nodes}
use Rattle.loop_ir.specs.declared.expressions.Expr as loop
use Rattle.loop_ir.specs.declared.expressions.Expr.TheVariants as e
use Rattle.loop_ir.specs.declared.expressions.Linear.{Linear}
use Rattle.loop_ir.specs.declared.statements.Store.{Store}
use Rattle.loop_ir.specs.declared.statements.Stmt.TheVariants as s
use Rattle.loop_ir.specs.Sizes.{kept, size, size_of, whole_size}
use Rattle.loop_ir.proofs.Sizes.{whole_store}
use Rattle.lowering_expressions.specs.Sizing.{IsGiven}
use Rattle.lowering_expressions.proofs.Sizing.{linear_size}
use Rattle.lowering.specs.Sizes.{counted, second_counted, update_counted, IsGivenIndex}
use Rattle.lowering.proofs.Registers.{count-same, at-most}

-- ---- stores

-- at a point of two loops
pub pure-size : (func_index : ℕ) (x y : Linear) (value : loop.Expr) (nodes : ℕ) → length x.terms ≡ 1 → length y.terms ≡ 1 → IsGiven (size value) nodes
    → whole_size (s.Store (record { func = func_index; x = e.Linear x; y = e.Linear y; value = value })) + 8 ≤ 64 *
    nodes
pure-size func_index x y value nodes ex ey given =
    let own : Store = record { func = func_index; x = e.Linear x; y = e.Linear y; value = value } in
    let w = whole_store own in
    let i = linear_size (e.Linear x) x refl in
    let j = linear_size (e.Linear y) y refl in
    omega (arith, w, i, j, ex, ey, given)

index-size : (flags : List Bool) (funcs : List Func) (func_index : ℕ) (index : Option Expr) (row y : loop.Expr) → IsGivenIndex flags funcs func_index index row
    → size y ≤ size row + 26
    → ((n : ℕ) → row ≡ e.Number n → (kept (size_of y) ≡ 0) × (size y ≤ 22)) → size y ≤ 64 * second_counted flags funcs func_index index + 22
index-size flags funcs func_index None row y is more alone = let l = (alone 0 is).1 in omega (arith, l)
index-size flags funcs func_index (Some own) row y is more alone = omega (arith, is, more)

-- at the point that a left side names
pub update-size : (flags : List Bool) (funcs : List Func) (func_index : ℕ) (update : Update) (store : Store) (column row : loop.Expr)
    → IsGiven (size column) (counted flags funcs func_index update.left_x)
    → size store.x ≤ size column + 26 → IsGivenIndex flags funcs func_index update.left_y row → size store.y ≤ size row + 26 → ((n : ℕ) → row ≡ e.Number n
    → (kept (size_of store.y) ≡ 0) × (size store.y ≤ 22))
    → IsGiven (size store.value) (counted flags funcs (func_index + 1) update.right) → whole_size (s.Store store) + 8 ≤ 64 * update_counted flags funcs func_index update
update-size flags funcs func_index update store column row fx ex fy ey alone fv =
    let w = whole_store store in
    let y = index-size flags funcs func_index update.left_y row store.y fy ey alone in
    omega (arith, w, fx, ex, y, fv)

-- ---- nodes that are counted are those that weigh

module _ (pipeline : Pipeline) (rules : IsWellFormed pipeline) (flags : List Bool) where
  same : (count : ℕ) (has : Variable → Bool) (expression : Expr) → count ≤ length pipeline.funcs → keeps (is_read pipeline.inputs pipeline.funcs count) has expression ≡ true
      → counted flags pipeline.funcs count expression ≡ nodes_in flags pipeline.funcs expression
  same count has expression within kept-so = count-same counting (flagged flags) pipeline.inputs pipeline.funcs count (length pipeline.funcs) within has (λ v. 1) expression
      kept-so

  pub pure-counted : (func_index : ℕ) (func : Func) → slice_get pipeline.funcs func_index ≡ Some func → counted flags pipeline.funcs func_index func.pure
      ≡ nodes_in flags pipeline.funcs func.pure
  pure-counted func_index func is = let l = at-most pipeline.funcs func_index func is in same func_index (is_argument (dimensions func)) func.pure (omega (arith, l))
      (rules.funcs func_index func is).pure

  second-same : (func_index : ℕ) (has : Variable → Bool) (count : ℕ) (index : Option Expr)
      → func_index ≤ length pipeline.funcs
      → keeps_index (is_read pipeline.inputs pipeline.funcs func_index) has count index ≡ true
      → second_counted flags pipeline.funcs func_index index ≡ second_nodes flags pipeline.funcs index
  second-same func_index has count None within kept-so = refl
  second-same func_index has count (Some expression) within kept-so = same func_index has expression within
      (and_parts _ _ kept-so).1

  pub update-counted : (func_index at : ℕ) (func : Func) (update : Update) → slice_get pipeline.funcs func_index ≡ Some func → slice_get func.updates at ≡ Some update
      → update_counted flags pipeline.funcs func_index update ≡ update_nodes flags pipeline.funcs update
  update-counted func_index at func update is at-is =
      let expression = (rules.funcs func_index func is).updates at update at-is in
      let has = is_update_variable (dimensions func) update.second in
      let l = at-most pipeline.funcs func_index func is in
      let x = same func_index has update.left_x (omega (arith, l)) expression.left_x in
      let y = second-same func_index has (dimensions func) update.left_y (omega (arith, l)) expression.left_y in
      let right : counted flags pipeline.funcs (suc func_index) update.right ≡ nodes_in flags pipeline.funcs update.right = same (suc func_index) has update.right
      (omega (arith, l)) expression.right in
      let more : func_index + 1 ≡ suc func_index = omega arith in
      let r = subst (λ (n : ℕ). counted flags pipeline.funcs n update.right ≡ nodes_in flags pipeline.funcs update.right) (sym more) right in
      omega (arith, x, y, r)

-- ---- a stage has more loops than splits

abbrev one : Loop → ℕ
one stage_loop = 1

length-total : (loops : List Loop) → length loops ≡ total one loops
length-total [] = refl
length-total (own ∷ loops) = omega (arith, length-total loops)

record Grown (start loops : List Loop) (splits : List Split) : Type 0 where
  pub count : total one loops ≡ total one start + length splits

grown-stays : (is_update : Bool) (start : List Loop) → Stays is_update start (Grown start)
grown-stays is_update start = record {
  begun = record { count = omega arith };
  parted = λ before own after splits line is few. record {
    count = omega (
      arith,
      total_parts one before own after (length splits) line,
      length-append splits
          (split_by own line ∷ []),
      few.count,
    );
  };
  marked = λ loops new splits same-so few. record { count = omega (arith, bare_total one (λ own. refl) new loops same-so, few.count) };
  moved = λ loops new splits same-so order few. record { count = omega (arith, same-so one, few.count) };
}

has-one : (test : Bool) → cond {A = ℕ} test 1 0 ≤ 1
has-one true = omega arith
has-one false = omega arith

has-few : (id : LoopId) (loops : List Loop) → total (has_id id) loops ≤ total one loops
has-few id [] = omega arith
has-few id (own ∷ loops) = omega (arith, has-one (same_id own.id id), has-few id loops)

first-there : (first : List ℕ) (second : Option (List ℕ)) → has_variable variables.FirstArgument (with_second (with_loop [] first variables.FirstArgument)
    second variables.SecondArgument) ≡ true
first-there first None = refl
first-there first (Some name) = refl

some-loop : (func : Func) (update : Option Update) → 1 ≤ total one (first_loops func update)
some-loop func None =
    let l : 1 ≤ total (has_id (ids.Whole variables.FirstArgument)) (first_loops func None) = there variables.FirstArgument (first_loops func None)
    (plain func None) (first-there func.first_argument func.second_argument) in
    omega (arith, l, has-few (ids.Whole variables.FirstArgument) (first_loops func None))
some-loop func (Some update) =
    let l : 1 ≤ total (has_id (ids.Whole variables.FirstReduction)) (first_loops func (Some update)) = there variables.FirstReduction
    (first_loops func (Some update)) (plain func (Some update)) (update_start func update).one in
    omega (arith, l, has-few (ids.Whole variables.FirstReduction) (first_loops func (Some update)))

pub more-loops : (func : Func) (update : Option Update) (stage : Stage) → IsStageOf func update stage → length stage.splits + 1 ≤ length stage.loops
more-loops func update stage is =
    let grown : Grown (first_loops func update) stage.loops stage.splits = by_making (Grown (first_loops func update)) (grown-stays (is_some update)
    (first_loops func update)) is.made in
    omega (arith, grown.count, length-total stage.loops, some-loop func update)
