-- The store of a pure definition.
use Rattle.std.proofs.Common.{◌≡◌, ℕ, Bool, true, false, List, [], ◌∷◌, ◌++◌, refl, sym, ap, subst, ◌∙◌}
use Rattle.std.specs.Prelude.{◌==◌, ◌&&◌, ◌||◌, not}
use Rattle.std.specs.List.{list_all}
use Rattle.std.proofs.lemmas.Bool.{and_from, eq-eqb}
use Rattle.halide_pipeline.specs.declared.definitions.Func.{Func}
use Rattle.halide_pipeline.specs.declared.expressions.Expr.{Expr}
use Rattle.halide_pipeline.specs.declared.expressions.Variable.TheVariants as variables
use Rattle.halide_pipeline.specs.Words as word
use Rattle.halide_pipeline.specs.declared.environments.Environment.{Environment}
use Rattle.halide_pipeline.specs.Pixel.{Reads, variable, reads_of, at_point}
use Rattle.halide_pipeline.specs.Points.{Point, Hold}
use Rattle.halide_pipeline.proofs.Seeing.{all_both}
use Rattle.bounds_inlining.specs.Inlining.{inlined}
use Rattle.bounds_inlining.specs.Laws.{seen_variable}
use Rattle.bounds_inlining.specs.Values.{values as valuing, seeing}
use Rattle.loop_ir.specs.declared.expressions.Expr.{fold-roll-Expr}
use Rattle.loop_ir.specs.declared.expressions.Expr as expressions
use Rattle.loop_ir.specs.declared.expressions.Expr.TheOpen as layer
use Rattle.loop_ir.specs.declared.expressions.Expr.TheVariants.{rolls-Linear}
use Rattle.loop_ir.specs.declared.expressions.Expr.TheVariants as e
use Rattle.loop_ir.specs.declared.expressions.Linear.{Linear}
use Rattle.loop_ir.specs.declared.statements.Store.{Store}
use Rattle.loop_ir.specs.declared.statements.Stmt.TheVariants as s
use Rattle.loop_ir.specs.Buffers.{Points, put}
use Rattle.loop_ir.specs.Counters.{Values}
use Rattle.loop_ir.specs.Expressions.{linear_value, loads, value, value_at}
use Rattle.loop_ir.specs.LoopLanes.{all_but, all_points}
use Rattle.loop_ir.specs.Runs.{point_of}
use Rattle.loop_ir.specs.Soundness.{is_sound, store_loads}
use Rattle.loop_ir.specs.Stores.{Trace}
use Rattle.loop_ir.proofs.Sound.{sound_store}
use Rattle.loop_ir.proofs.Traces.{trace_store}
use Rattle.loop_ir.proofs.Trees.{run_store}
use Rattle.lowering_expressions.specs.declared.calls.Corner.{Corner}
use Rattle.lowering_expressions.specs.declared.lowering.Arguments.{Arguments}
use Rattle.lowering_expressions.specs.Lowering.{environment, placed, place as place_in}
use Rattle.lowering_expressions.proofs.Following.{linear_passes}
use Rattle.lowering.specs.PurePhases.{StoresPure, HitsPure, IsSoundPure, MissesPure, whole_at}
use Rattle.lowering.proofs.Lists.{all_pass}

value_linear : (reads : Reads) (values : Values) (sum : Linear) → value reads values (e.Linear sum) ≡ linear_value values sum
unfolding value
value_linear reads values sum =
    ap (λ (t : expressions.Expr). value reads values t) (sym (rolls-Linear sum)) ∙ fold-roll-Expr ℕ (value_at reads values) (layer.Linear sum)

pub stores_pure : (corners : List Corner) (flags : ℕ → Bool) (funcs : List Func) (func_index : ℕ) (corner : Corner) (pure : Expr) (x y : Linear)
    (expression : expressions.Expr) (arguments : Arguments)
    → ((values : Values) → environment values arguments
    ≡ at_point (word.add (whole_at values func_index variables.FirstArgument) (linear_value values corner.x))
    (word.add (whole_at values func_index variables.SecondArgument) (linear_value values corner.y)))
    → ((values : Values) → linear_value values x ≡ whole_at values func_index variables.FirstArgument)
    → ((values : Values) → linear_value values y ≡ whole_at values func_index variables.SecondArgument)
    → ((reads : Reads) (values : Values) → value reads values expression ≡ inlined (valuing (placed corners values reads)) flags funcs func_index
    (variable (environment values arguments)) pure)
    → StoresPure corners flags funcs func_index corner pure (s.Store (record { func = func_index; x = e.Linear x; y = e.Linear y; value = expression }))
stores_pure corners flags funcs func_index corner pure x y expression arguments environment_is x_is y_is value_is points inputs values buffers =
    let reads = reads_of inputs buffers in
    let at_x = value_linear reads values x ∙ x_is values in
    let at_y = value_linear reads values y ∙ y_is values in
    let written : value reads values expression
    ≡ inlined (valuing (placed corners values reads)) flags funcs func_index
    (variable (at_point (word.add (whole_at values func_index variables.FirstArgument) (linear_value values corner.x))
    (word.add (whole_at values func_index variables.SecondArgument) (linear_value values corner.y)))) pure =
    value_is reads values ∙ ap (λ (v : Environment). inlined (valuing (placed corners values reads)) flags funcs func_index (variable v) pure)
    (environment_is values) in
    run_store points inputs (record { func = func_index; x = e.Linear x; y = e.Linear y; value = expression }) values
    buffers
    ∙ ap (λ (n : ℕ). put points func_index n (value reads values (e.Linear y)) (value reads values expression) buffers)
    at_x
    ∙ ap (λ (n : ℕ). put points func_index (whole_at values func_index variables.FirstArgument) n (value reads values expression) buffers) at_y
    ∙ ap (λ (n : ℕ). put points func_index (whole_at values func_index variables.FirstArgument) (whole_at values func_index variables.SecondArgument) n buffers) written

pub hits_pure : (func_index : ℕ) (x y : Linear) (expression : expressions.Expr)
    → ((values : Values) → linear_value values x ≡ whole_at values func_index variables.FirstArgument)
    → ((values : Values) → linear_value values y ≡ whole_at values func_index variables.SecondArgument)
    → HitsPure func_index (s.Store (record { func = func_index; x = e.Linear x; y = e.Linear y; value = expression }))
hits_pure func_index x y expression x_is y_is points inputs func p q values so_far =
    let reads = reads_of inputs so_far.funcs in
    ap (λ (t : Trace). t.is_stored) (trace_store points inputs func p q (record { func = func_index; x = e.Linear x; y = e.Linear y; value = expression }) values so_far)
    ∙ ap (λ (n : ℕ). so_far.is_stored || (func_index == func && (n == p && value reads values (e.Linear y) == q))) (value_linear reads values x ∙ x_is values)
    ∙ ap (λ (n : ℕ). so_far.is_stored || (func_index == func && (whole_at values func_index variables.FirstArgument == p && n == q))) (value_linear reads values y
    ∙ y_is values)

pub misses_pure : (func_index : ℕ) (x y : Linear) (expression : expressions.Expr)
    → ((values : Values) → linear_value values x ≡ whole_at values func_index variables.FirstArgument)
    → ((values : Values) → linear_value values y ≡ whole_at values func_index variables.SecondArgument)
    → MissesPure func_index (s.Store (record { func = func_index; x = e.Linear x; y = e.Linear y; value = expression }))
misses_pure func_index x y expression x_is y_is reads p q values =
    let own : Store = record { func = func_index; x = e.Linear x; y = e.Linear y; value = expression } in
    sound_store reads (all_but (point_of func_index p q)) all_points own values
    ∙ ap (λ (b : Bool). all_but (point_of func_index p q) func_index (value reads values (e.Linear x)) (value reads values (e.Linear y)) && b)
    (all_of (store_loads reads values own))
    ∙ and_true (all_but (point_of func_index p q) func_index (value reads values (e.Linear x))
    (value reads values (e.Linear y)))
    ∙ ap (λ (b : Bool). not (b && (p == value reads values (e.Linear x) && q == value reads values (e.Linear y)))) (eq-eqb func_index func_index refl)
    ∙ ap (λ (n : ℕ). not (p == n && q == value reads values (e.Linear y))) (value_linear reads values x ∙ x_is values)
    ∙ ap (λ (n : ℕ). not (p == whole_at values func_index variables.FirstArgument && q == n)) (value_linear reads values y ∙ y_is values)
  where
    all_of : (points : List Point) → list_all all_points points ≡ true
    all_of [] = refl
    all_of (point ∷ points) = all_of points

    and_true : (b : Bool) → (b && true) ≡ b
    and_true true = refl
    and_true false = refl

-- ---- what it touches

-- A store is sound whose point may be written, and all of whose loads may be made.
pub store_sound : (reads : Reads) (written : Points) (loaded : Point → Bool) (store : Store) (values : Values)
    → written store.func (value reads values store.x) (value reads values store.y) ≡ true
    → Hold loaded (loads reads values store.x) → Hold loaded (loads reads values store.y) → Hold loaded (loads reads values store.value)
    → is_sound reads written loaded (s.Store store) values ≡ true
store_sound reads written loaded store values writes first second stored =
    let passes : Point → Type 0 = λ point. loaded point ≡ true in
    sound_store reads written loaded store values
    ∙ and_from (written store.func (value reads values store.x) (value reads values store.y)) (list_all loaded (store_loads reads values store)) writes
    (all_pass loaded (store_loads reads values store)
    (all_both passes (loads reads values store.x) (loads reads values store.y ++ loads reads values store.value) first
    (all_both passes (loads reads values store.y) (loads reads values store.value) second stored)))

pub sound_pure : (corners : List Corner) (flags : ℕ → Bool) (funcs : List Func) (func_index : ℕ) (corner : Corner) (pure : Expr) (x y : Linear)
    (expression : expressions.Expr) (arguments : Arguments)
    → ((values : Values) → environment values arguments
    ≡ at_point (word.add (whole_at values func_index variables.FirstArgument) (linear_value values corner.x))
    (word.add (whole_at values func_index variables.SecondArgument) (linear_value values corner.y)))
    → ((values : Values) → linear_value values x ≡ whole_at values func_index variables.FirstArgument)
    → ((values : Values) → linear_value values y ≡ whole_at values func_index variables.SecondArgument)
    → ((reads : Reads) (values : Values) (test : Point → Bool)
    → Hold (λ point. test (place_in corners values point)) (inlined (seeing (placed corners values reads)) flags funcs func_index
    (seen_variable (environment values arguments)) pure).points
    → Hold test (loads reads values expression))
    → IsSoundPure corners flags funcs func_index corner pure (s.Store (record { func = func_index; x = e.Linear x; y = e.Linear y; value = expression }))
sound_pure corners flags funcs func_index corner pure x y expression arguments environment_is x_is y_is loads_are reads written loaded values writes all_loaded =
    store_sound reads written loaded (record { func = func_index; x = e.Linear x; y = e.Linear y; value = expression })
    values
    (ap (λ (n : ℕ). written func_index n (value reads values (e.Linear y))) (value_linear reads values x ∙ x_is values)
    ∙ ap (λ (n : ℕ). written func_index (whole_at values func_index variables.FirstArgument) n) (value_linear reads values y ∙ y_is values) ∙ writes)
    (linear_passes reads values x loaded) (linear_passes reads values y loaded)
    (loads_are reads values loaded
    (subst (λ (v : Environment). Hold (λ point. loaded (place_in corners values point)) (inlined (seeing (placed corners values reads)) flags funcs func_index
    (seen_variable v) pure).points) (sym (environment_is values)) all_loaded))
