-- How many copies loops make of what is inside: an unrolled loop has no more iterations than its copies count in the weight, and what loops
-- around a body ask for is paid by all copies.
use Rattle.std.proofs.Common.{◌≡◌, ℕ, zero, suc, ◌+◌, ◌*◌, ◌-◌, ◌≤◌, Bool, true, false, cond, List, [], ◌∷◌, ◌++◌, length, take, Option, Some, None, refl, sym}
use Rattle.std.proofs.Common.{ap, subst, ◌∙◌, arith, inl, inr, true≢false}
use Rattle.std.specs.Prelude.{◌==◌, ◌&&◌, ◌⊎◌, if◌then◌else◌, nat_le, nat_lt, not, is_some, slice_get}
use Rattle.std.specs.List.{AllByRecursion}
use Rattle.std.proofs.lemmas.Bool.{and_parts, eqb-true}
use Rattle.std.proofs.Math.Nat.{add-mul, mul-add, mul_assoc, mul_comm, mul_right_comm}
use Rattle.halide_pipeline.specs.declared.definitions.Func.{Func}
use Rattle.halide_pipeline.specs.declared.definitions.Reduction.{Reduction}
use Rattle.halide_pipeline.specs.declared.definitions.Update.{Update}
use Rattle.halide_pipeline.specs.declared.expressions.Variable.{Variable}
use Rattle.halide_pipeline.specs.declared.expressions.Variable.TheVariants as variables
use Rattle.halide_pipeline.specs.WellFormed.{is_first_in_place, is_second_in_place}
use Rattle.schedule_lines.specs.declared.stages.Loop.{Loop}
use Rattle.schedule_lines.specs.declared.stages.LoopId.{LoopId}
use Rattle.schedule_lines.specs.declared.stages.Mark.TheVariants as marks
use Rattle.schedule_lines.specs.declared.stages.Split.{Split}
use Rattle.schedule_lines.specs.declared.stages.Stage.{Stage}
use Rattle.schedule_lines.specs.Directives.{is_marked, same_id}
use Rattle.schedule_lines.specs.Making.{IsStage, total, is_stray}
use Rattle.schedule.specs.Plans.{with_loop, with_second, with_reduction}
use Rattle.schedule_loops.specs.declared.extents.Extents.{Extents}
use Rattle.schedule_loops.specs.Visits as loops
use Rattle.schedule_loops.specs.Stages.{IsStageOf, first_loops, has_variable}
use Rattle.schedule_loops.proofs.Ids.{same_id-self, cases_id}
use Rattle.schedule_loops.proofs.Making.{Stays, by_making, total_parts, bare_total, total-append}
use Rattle.schedule_loops.proofs.Nesting.{has_id}
use Rattle.schedule_loops.proofs.Selecting.{Unique}
use Rattle.bounds_weights.specs.Weight.{copies, all_copies, copies_from, factor_of, stage_weight}
use Rattle.loop_ir.specs.Sizes.{are_copies, loop_room}
use Rattle.lowering_nests.specs.Sizes.{nest_size}
use Rattle.lowering.specs.PurePhases.{inside_of}
use Rattle.lowering.proofs.VectorLoops.{fits, flaw, stage_flawless}

-- ---- no loop is the inner one of a split by 0

abbrev is-none : Option ℕ → ℕ
is-none None = 0
is-none (Some zero) = 1
is-none (Some (suc n)) = 0

abbrev is-void : Loop → ℕ
is-void stage_loop = is-none stage_loop.inner_of

record Solid (loops : List Loop) (splits : List Split) : Type 0 where
  pub none : total is-void loops ≡ 0

factor-some : (n : ℕ) → 1 ≤ n → is-none (Some n) ≡ 0
factor-some zero l = absurd (omega (arith, l))
factor-some (suc n) l = refl

solid-stays : (is_update : Bool) (start : List Loop) → total is-void start ≡ 0 → Stays is_update start Solid
solid-stays is_update start none = record {
  begun = record { none = none };
  parted = λ before own after splits line is solid. let s = solid.none in let f = factor-some line.factor is.some in let p = total_parts is-void before own
      after (length splits) line in record { none = omega (arith, s, f, p) };
  marked = λ loops new splits same solid. record { none = bare_total is-void (λ own. refl) new loops same ∙ solid.none };
  moved = λ loops new splits same order solid. record { none = same is-void ∙ solid.none };
}

with-solid : (loops : List Loop) (name : List ℕ) (variable : Variable) → total is-void loops ≡ 0 → total is-void (with_loop loops name variable) ≡ 0
with-solid [] name variable none = refl
with-solid (own ∷ others) name variable none = let r = with-solid others name variable (omega (arith, none)) in omega (arith, none, r)

second-solid : (loops : List Loop) (second : Option (List ℕ)) (variable : Variable) → total is-void loops ≡ 0
    → total is-void (with_second loops second variable) ≡ 0
second-solid loops None variable none = none
second-solid loops (Some name) variable none = with-solid loops name variable none

start-solid : (func : Func) (update : Option Update) → total is-void (first_loops func update) ≡ 0
start-solid func None = second-solid (with_loop [] func.first_argument variables.FirstArgument) func.second_argument variables.SecondArgument refl
start-solid func (Some update) = second-in (is_second_in_place update) _ (first-in (is_first_in_place update) _ (reductions update.second))
  where
    reductions : (second : Option Reduction) → total is-void (with_reduction (with_loop [] update.first.name variables.FirstReduction) second) ≡ 0
    reductions None = refl
    reductions (Some own) = refl

    first-in : (t : Bool) (loops : List Loop) → total is-void loops ≡ 0
        → total is-void (if t then with_loop loops func.first_argument variables.FirstArgument else loops) ≡ 0
    first-in true loops none = with-solid loops func.first_argument variables.FirstArgument none
    first-in false loops none = none

    second-in : (t : Bool) (loops : List Loop) → total is-void loops ≡ 0
        → total is-void (if t then with_second loops func.second_argument variables.SecondArgument else loops) ≡ 0
    second-in true loops none = second-solid loops func.second_argument variables.SecondArgument none
    second-in false loops none = none

-- ---- products

pub times-most : (a b c : ℕ) → a ≤ b → a * c ≤ b * c
times-most zero b c l = omega arith
times-most (suc a) zero c l = absurd (omega (arith, l))
times-most (suc a) (suc b) c l = let r = times-most a b c (omega (arith, l)) in omega (arith, r)

pub times-some : (a b : ℕ) → 1 ≤ a → b ≤ a * b
times-some zero b l = absurd (omega (arith, l))
times-some (suc a) b l = omega arith

spread : (c body : ℕ) → c * (body + 39) ≡ c * (body + 1) + c * 38
spread c body = ap (λ (z : ℕ). c * z) (let g : body + 39 ≡ body + 1 + 38 = omega arith in g) ∙ mul-add c (body + 1) 38

-- one more loop outside
outside-paid : (nest size body count func_index outside : ℕ) → 1 ≤ func_index → nest ≤ outside * (size + 39 * count) → size ≤ func_index * (body + 39)
    → nest ≤ func_index * outside * (body + 39 * suc count)
outside-paid nest size body count func_index outside some r l =
    let t = times-some func_index (39 * count) some in
    let d = mul-add func_index (body + 39) (39 * count) in
    let k = times-most (size + 39 * count) (func_index * (body + 39 + 39 * count)) outside (omega (arith, l, t, d)) in
    let c1 = mul_comm outside (size + 39 * count) in
    let c2 = mul_right_comm func_index (body + 39 + 39 * count) outside in
    let c3 = ap (λ (z : ℕ). func_index * outside * z) (let g : body + 39 + 39 * count ≡ body + 39 * suc count = omega arith in g) in
    omega (arith, r, k, c1, c2, c3)

-- ---- what is known of each loop

-- it counts at least once, and where it is laid out, as often as it has iterations
pub record Paid (counts : loops.Values) (stage_loop : Loop) : Type 0 where
  pub some : 1 ≤ copies stage_loop
  pub most : is_marked marks.Unrolled stage_loop ≡ true → counts stage_loop.id ≤ copies stage_loop

abbrev pub ArePaid : loops.Values → List Loop → Type 0
ArePaid counts stage_loops = AllByRecursion (Paid counts) stage_loops

one-copy : (unrolled : Bool) (inner : Option ℕ) → is-none inner ≡ 0 → 1 ≤ (if unrolled then factor_of inner else 1)
one-copy true None none = omega arith
one-copy true (Some zero) none = absurd (omega (arith, none))
one-copy true (Some (suc n)) none = omega arith
one-copy false inner none = omega arith

module _ (strided counts : loops.Values) (start : List Loop) where
  fine-by : (a b c : Bool) → cond {A = ℕ} (a && (b && c)) 0 1 ≡ 0 → b ≡ true
  fine-by true true c e = refl
  fine-by true false c e = absurd (omega (arith, e))
  fine-by false b c e = absurd (omega (arith, e))

  few-lanes : (own : Loop) (inner : Option ℕ) → fits counts own inner ≡ true → cond {A = ℕ} (true && not (is_some inner)) 1 0 ≡ 0
      → counts own.id ≤ factor_of inner
  few-lanes own None fit stray = absurd (omega (arith, stray))
  few-lanes own (Some factor) fit stray = let e = eqb-true (counts own.id) factor fit in omega (arith, e)

  paid-one : (own : Loop) → flaw strided counts start own ≡ 0 → is_stray own ≡ 0 → is-void own ≡ 0 → Paid counts own
  paid-one own fine stray solid = record {
    some = one-copy (is_marked marks.Unrolled own) own.inner_of solid;
    most = λ e.
        let few = few-lanes own own.inner_of (fine-by (nat_le 1 (strided own.id)) (fits counts own own.inner_of) (has_variable own.variable start) fine)
        (sym (ap (λ (b : Bool). cond {A = ℕ} (b && not (is_some own.inner_of)) 1 0) e) ∙ stray) in
        let c : copies own ≡ factor_of own.inner_of = ap (λ (b : Bool). if b then factor_of own.inner_of else 1) e in
        omega (arith, few, c);
  }

  paid-all : (own : List Loop) → total (flaw strided counts start) own ≡ 0 → total is_stray own ≡ 0 → total is-void own ≡ 0 → ArePaid counts own
  paid-all [] fine stray solid = tt
  paid-all (own ∷ others) fine stray solid = (
    paid-one own (omega (arith, fine)) (omega (arith, stray)) (omega (arith, solid)),
    paid-all others (omega (arith, fine)) (omega (arith, stray))
        (omega (arith, solid)),
  )

pub stage-paid : (func : Func) (update : Option Update) (extents : Extents) (stage : Stage) → IsStageOf func update stage
    → ArePaid (loops.counts extents stage.splits) stage.loops
stage-paid func update extents stage is =
    paid-all (loops.strides stage.splits) (loops.counts extents stage.splits) (first_loops func update) stage.loops (stage_flawless func update extents stage
    is) is.unrolled
    (by_making Solid (solid-stays (is_some update) (first_loops func update) (start-solid func update)) is.made).none

-- ---- loops around a body

module _ (counts : loops.Values) where
  pub copies-some : (own : List Loop) → ArePaid counts own → 1 ≤ all_copies own
  copies-some [] paid = omega arith
  copies-some (own ∷ others) paid = let s = copies-some others paid.1 in let t = times-some (copies own) (all_copies others) paid.0.some in omega (arith, s, t)

  pub loop-paid : (own : Loop) (body : ℕ) → Paid counts own → loop_room (is_marked marks.Unrolled own) (counts own.id) body ≤ copies own * (body + 39)
  loop-paid own body paid =
      by-test (are_copies (is_marked marks.Unrolled own) (counts own.id)) (λ e. paid.most (and_parts (is_marked marks.Unrolled own) (nat_lt 0 (counts own.id))
      e).0)
    where
      by-test : (t : Bool) → (t ≡ true → counts own.id ≤ copies own) → (if t then counts own.id * (body + 1) + 1 else body + 7) + 31 ≤ copies own * (body + 39)
      by-test true most =
          let m = times-most (counts own.id) (copies own) (body + 1) (most refl) in
          let d = spread (copies own) body in
          let t = times-some (copies own) 38 paid.some in
          omega (arith, m, d, t)
      by-test false most = let t = times-some (copies own) (body + 39) paid.some in omega (arith, t)

  pub nest-paid : (own : List Loop) (body : ℕ) → ArePaid counts own → nest_size counts own body ≤ all_copies own * (body + 39 * length own)
  nest-paid [] body paid = omega arith
  nest-paid (own ∷ outside) body paid =
      let size = loop_room (is_marked marks.Unrolled own) (counts own.id) body in
      outside-paid (nest_size counts outside size) size body (length outside) (copies own) (all_copies outside) paid.0.some (nest-paid outside size paid.1)
      (loop-paid own body paid.0)

  -- of the first loops no more copies than of all
  pub first-copies : (n : ℕ) (own : List Loop) → ArePaid counts own → all_copies (take n own) ≤ all_copies own
  first-copies zero own paid = copies-some own paid
  first-copies (suc n) [] paid = omega arith
  first-copies (suc n) (own ∷ others) paid =
      let r = first-copies n others paid.1 in
      let t = times-most (all_copies (take n others)) (all_copies others) (copies own) r in
      omega (arith, t, mul_comm (copies own) (all_copies (take n others)), mul_comm (copies own) (all_copies others))

  first-paid : (n : ℕ) (own : List Loop) → ArePaid counts own → ArePaid counts (take n own)
  first-paid zero own paid = tt
  first-paid (suc n) [] paid = tt
  first-paid (suc n) (own ∷ others) paid = (paid.0, first-paid n others paid.1)

  -- what is in a task's loops is paid by all copies
  pub task-paid : (stage_loop : Option Loop) (own : List Loop) (body : ℕ) → ArePaid counts own
      → nest_size counts (inside_of stage_loop own) body ≤ all_copies own * (body + 39 * length own)
  task-paid None own body paid = nest-paid own body paid
  task-paid (Some other) own body paid =
      let inside = take (length own - 1) own in
      let r = nest-paid inside body (first-paid (length own - 1) own paid) in
      let c = first-copies (length own - 1) own paid in
      let few = few-taken (length own - 1) own in
      let t = times-most (all_copies inside) (all_copies own) (body + 39 * length inside) c in
      let k = times-most (body + 39 * length inside) (body + 39 * length own) (all_copies own) (omega (arith, few)) in
      omega (arith, r, t, k, mul_comm (all_copies own) (body + 39 * length inside), mul_comm (all_copies own) (body + 39 * length own))
    where
      few-taken : (n : ℕ) (own : List Loop) → length (take n own) ≤ length own
      few-taken zero own = omega arith
      few-taken (suc n) [] = omega arith
      few-taken (suc n) (own ∷ others) = let r = few-taken n others in omega (arith, r)

  -- of the last loops no more copies than of all
  pub last-copies : (inside outside : List Loop) → ArePaid counts (inside ++ outside) → all_copies outside ≤ all_copies (inside ++ outside)
  last-copies [] outside paid = omega arith
  last-copies (own ∷ inside) outside paid =
      let r = last-copies inside outside paid.1 in
      let t = times-some (copies own) (all_copies (inside ++ outside)) paid.0.some in
      omega (arith, r, t)

  pub paid-at : (inside : List Loop) (own : Loop) (outside : List Loop) → ArePaid counts (inside ++ own ∷ outside) → Paid counts own
  paid-at [] own outside paid = paid.0
  paid-at (first ∷ inside) own outside paid = paid-at inside own outside paid.1

-- the copies of a loop and those outside of it
pub copies-at : (inside : List Loop) (stage_loop : Loop) (outside : List Loop) → Unique (inside ++ stage_loop ∷ outside) → copies_from stage_loop.id (inside ++ stage_loop ∷ outside)
    ≡ all_copies (stage_loop ∷ outside)
copies-at [] stage_loop outside unique = ap (λ (t : Bool). if t then copies stage_loop * all_copies outside else copies_from stage_loop.id outside) (same_id-self stage_loop.id)
copies-at (first ∷ inside) stage_loop outside unique =
    elim (cases_id first.id stage_loop.id) [
      | inl e ↦
          let a : has_id stage_loop.id stage_loop ≡ 1 = ap (λ (t : Bool). cond {A = ℕ} t 1 0)
          (same_id-self stage_loop.id) in
          let b : has_id stage_loop.id first ≡ 1 = ap (λ (i : LoopId). cond {A = ℕ} (same_id i stage_loop.id) 1 0) e ∙ a
          in
          let u : total (has_id stage_loop.id) (first ∷ (inside ++ stage_loop ∷ outside)) ≤ 1 = unique stage_loop.id in
          let p = total-append (has_id stage_loop.id) inside (stage_loop ∷ outside) in
          absurd (omega (arith, a, b, u, p))
      | inr d ↦
          ap (λ (t : Bool). if t then copies first * all_copies (inside ++ stage_loop ∷ outside) else copies_from stage_loop.id (inside ++ stage_loop ∷ outside)) d
          ∙ copies-at inside stage_loop outside (λ id. let u : total (has_id id) (first ∷ (inside ++ stage_loop ∷ outside)) ≤ 1 = unique id in omega (arith, u))
    ]

-- ---- stages

pub same-nest : (extents : Extents) (splits others : List Split) (stage_loops all : List Loop) (whole store : ℕ) → splits ≡ others → stage_loops ≡ all
    → whole ≡ nest_size (loops.counts extents splits) stage_loops (25 * length splits + store)
    → whole ≡ nest_size (loops.counts extents others) all (25 * length others + store)
same-nest extents splits others stage_loops all whole store es el is =
    is ∙ ap (λ (l : List Split). nest_size (loops.counts extents l) stage_loops (25 * length l + store)) es
    ∙ ap (λ (ls : List Loop). nest_size (loops.counts extents others) ls (25 * length others + store)) el

-- 64 words for each unit of the weight, with 24 to spare
pub is-light : (whole copied splits store nodes count produced : ℕ) → 1 ≤ copied → splits + 1 ≤ count → store + 8 ≤ 64 * nodes
    → whole ≤ copied * (25 * splits + store + 39 * count) + 64 * produced
    → whole + 24 ≤ 64 * ((nodes + count) * copied + produced)
is-light whole copied splits store nodes count produced some more given few =
    let t = times-most (25 * splits + store + 39 * count + 24) (64 * (nodes + count)) copied (omega (arith, more, given)) in
    let d = add-mul (25 * splits + store + 39 * count) 24 copied in
    let c = mul_comm copied (25 * splits + store + 39 * count) in
    let a = mul_assoc 64 (nodes + count) copied in
    omega (arith, t, d, c, a, some, few)

module _ (func : Func) (update : Option Update) (extents : Extents) (stage : Stage) (is : IsStageOf func update stage) (store nodes : ℕ)
    (more : length stage.splits + 1 ≤ length stage.loops) (given : store + 8 ≤ 64 * nodes) where
  abbrev counted : loops.Values
  counted = loops.counts extents stage.splits

  some : 1 ≤ all_copies stage.loops
  some = copies-some counted stage.loops (stage-paid func update extents stage is)

  -- what is in a task's loops
  pub task-light : (stage_loop : Option Loop) (whole : ℕ) → whole ≡ nest_size counted (inside_of stage_loop stage.loops) (25 * length stage.splits + store)
      → whole + 24 ≤ 64 * stage_weight nodes stage
  task-light stage_loop whole e =
      let p = task-paid counted stage_loop stage.loops (25 * length stage.splits + store) (stage-paid func update extents stage is) in
      let l = is-light whole (all_copies stage.loops) (length stage.splits) store nodes (length stage.loops) 0 some more given (omega (arith, p, e)) in
      omega (arith, l)

  -- and all of a stage's loops
  pub nest-light : (whole : ℕ) → whole ≡ nest_size counted stage.loops (25 * length stage.splits + store) → whole ≤ 64 * stage_weight nodes stage
  nest-light whole e = let l = task-light None whole e in omega (arith, l)
