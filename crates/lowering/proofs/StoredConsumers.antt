-- Where the loops of a consumer store in its buffer, with the nests of the Funcs that are computed at them, which store in others.
use Rattle.std.proofs.Common.{◌≡◌, ℕ, ◌%◌, ◌^◌, ◌<◌, Bool, cond, Some, None, List, [], ◌∷◌, ◌++◌, refl, sym, ap, subst, ◌∙◌, arith}
use Rattle.std.specs.Prelude.{◌==◌, ◌&&◌, ◌||◌, suc}
use Rattle.std.specs.List.{AllByRecursion, list_any}
use Rattle.std.proofs.lemmas.Bool.{eq-eqb}
use Rattle.std.proofs.Math.Nat.{mod-eq_of_lt}
use Rattle.halide_pipeline.specs.declared.expressions.Variable.{Variable}
use Rattle.halide_pipeline.specs.declared.expressions.Variable.TheVariants as variables
use Rattle.halide_pipeline.specs.Pipelines.{Pipeline}
use Rattle.halide_pipeline.specs.Pixel.{Planes}
use Rattle.schedule_lines.specs.declared.stages.Loop.{Loop}
use Rattle.schedule_lines.specs.declared.stages.LoopId.TheVariants as ids
use Rattle.schedule_lines.specs.declared.stages.Split.{Split}
use Rattle.schedule.specs.declared.schedules.Schedule.{Schedule}
use Rattle.schedule.specs.declared.placements.LoopPosition.{LoopPosition}
use Rattle.schedule.specs.Accepted.{IsAccepted}
use Rattle.schedule_loops.specs.declared.extents.Extents.{Extents}
use Rattle.schedule_loops.specs.Visits as loops
use Rattle.schedule_loops.specs.Reach.{wholes}
use Rattle.schedule_loops.specs.Visits.{upto, over_loops}
use Rattle.schedule_loops.proofs.Nesting.{nest-append}
use Rattle.bounds.specs.declared.verdict.Boxes.{Boxes}
use Rattle.loop_ir.specs.declared.statements.Stmt.{Stmt}
use Rattle.loop_ir.specs.Buffers.{Points}
use Rattle.loop_ir.specs.Counters.{Values, with}
use Rattle.loop_ir.specs.Stores.{Trace, trace}
use Rattle.lowering_nests.specs.Nests.{put_loops, all, AreFew, AreSmall, Repeats}
use Rattle.lowering_nests.proofs.Few.{iterations_few}
use Rattle.lowering.specs.Consuming.{consuming, IsNestOf, HasNests, None_left, One_more, HasLoops, No_loops, One_outside}
use Rattle.lowering.specs.PurePhases.{HitsPure, whole_at}
use Rattle.lowering.proofs.Facts.{produced_before}
use Rattle.lowering.proofs.Filling.{loops_consuming, no_other_loops}
use Rattle.lowering.proofs.Lists.{all_upto}
use Rattle.lowering.proofs.LoopIterations.{consuming_with, small_with}
use Rattle.lowering.proofs.Marks.{Tells, list_tells, iterations_tell}
use Rattle.lowering.proofs.UpdateRuns.{all_so}

-- the point at which values of loops over whole variables stand
abbrev pub x_of : loops.Values → ℕ
x_of inner = inner (ids.Whole variables.FirstArgument)

abbrev pub y_of : loops.Values → ℕ
y_of inner = inner (ids.Whole variables.SecondArgument)

abbrev pub AreWords : loops.Values → Type 0
AreWords inner = (x_of inner < 2 ^ 32) × (y_of inner < 2 ^ 32)

abbrev pub is_at : ℕ → ℕ → loops.Values → Bool
is_at x y inner = x_of inner == x && y_of inner == y

pub whole_put : (func_index : ℕ) (inner : loops.Values) (values : Values) (v : Variable) → inner (ids.Whole v) < 2 ^ 32
    → whole_at (put_loops func_index inner values) func_index v ≡ inner (ids.Whole v)
whole_put func_index inner values v small =
    ap (λ (b : Bool). cond b (inner (ids.Whole v)) (values (record { func = func_index; id = ids.Whole v })) % 2 ^ 32) (eq-eqb func_index func_index refl)
    ∙ mod-eq_of_lt {n = inner (ids.Whole v)} {m = 2 ^ 32} small

module _ (pipeline : Pipeline) (schedule : Schedule) (boxes : Boxes) (accepted : IsAccepted pipeline schedule) (points : Points) (inputs : Planes)
    (consumer x y : ℕ) where
  abbrev traced : Stmt → Values → Trace → Trace
  traced new_statement values = trace points inputs consumer x y new_statement values

  -- whatever buffers hold, the statement stores at the point exactly if this holds, while the consumer's loops stand so
  abbrev pub Told : Stmt → loops.Values → Bool → Type 0
  Told new_statement in_task hit = Tells (traced new_statement (consuming consumer in_task)) hit

  module _ (at : LoopPosition) (same : at.func ≡ consumer) (in_task : loops.Values) where
    -- a nest in front stores elsewhere
    before_alone : (func_index : ℕ) (first : Stmt) → IsNestOf pipeline schedule boxes at func_index first
        → (so_far : Trace)
        → (traced first (consuming consumer in_task) so_far).is_stored ≡ so_far.is_stored
    before_alone func_index first nest_of so_far =
        let earlier : func_index < at.func = produced_before pipeline schedule accepted func_index nest_of.parts.standing nest_of.parts.there at nest_of.parts.placed_is
        in
        nest_of.alone points inputs consumer x y (λ e. omega (arith, e, earlier, same)) (consuming consumer in_task)
        (subst AreSmall (sym (no_other_loops consumer func_index in_task (λ e. omega (arith, e, earlier, same)))) (λ id. omega arith)) so_far

    pub nests : (from : ℕ) (inner body : Stmt) → HasNests pipeline schedule boxes at from inner body → (hit : Bool) → Told inner in_task hit
        → Told body in_task hit
    nests from inner _ (None_left _ _ all_seen) hit told so_far = told so_far
    nests from inner body (One_more _ None _ rest _ none more does) hit told so_far =
        ap (λ (t : Trace). t.is_stored) (does.traces points inputs consumer x y (consuming consumer in_task) so_far)
        ∙ nests (suc from) inner rest more hit told so_far
    nests from inner body (One_more _ (Some first) _ rest _ nest_of more does) hit told so_far =
        ap (λ (t : Trace). t.is_stored) (does.traces points inputs consumer x y (consuming consumer in_task) so_far)
        ∙ nests (suc from) inner rest more hit told (traced first (consuming consumer in_task) so_far)
        ∙ ap (λ (b : Bool). b || hit) (before_alone from first nest_of so_far)

  module _ (extents : Extents) (splits : List Split) (few : AreFew extents) (are_splits : loops.AreSplits splits) (store : Stmt) (hits : HitsPure consumer
      store) where
    abbrev counts : loops.Values
    counts = loops.counts extents splits

    abbrev listed : List Loop → loops.Values → List loops.Values
    listed inside in_task = wholes extents splits inside in_task

    abbrev step : loops.Values → loops.Values → Trace → Trace
    step in_task inner = traced store (put_loops consumer inner (consuming consumer in_task))

    store_tells : (in_task inner : loops.Values) → AreWords inner → Tells (step in_task inner) (is_at x y inner)
    store_tells in_task inner small so_far =
        let values = put_loops consumer inner (consuming consumer in_task) in
        hits points inputs consumer x y values so_far
        ∙ ap (λ (b : Bool). so_far.is_stored || (b && (whole_at values consumer variables.FirstArgument == x
        && whole_at values consumer variables.SecondArgument == y))) (eq-eqb consumer consumer refl)
        ∙ ap (λ (n : ℕ). so_far.is_stored || (n == x && whole_at values consumer variables.SecondArgument == y)) (whole_put consumer inner
        (consuming consumer in_task) variables.FirstArgument small.0)
        ∙ ap (λ (n : ℕ). so_far.is_stored || (x_of inner == x && n == y)) (whole_put consumer inner (consuming consumer in_task) variables.SecondArgument
        small.1)

    leaf_tells : (leaf : Stmt) → Repeats consumer leaf store (wholes extents splits []) → (in_task : loops.Values) → AreSmall in_task
        → AllByRecursion AreWords (listed [] in_task) → Told leaf in_task (list_any (is_at x y) (listed [] in_task))
    leaf_tells leaf bound in_task small words so_far =
        ap (λ (t : Trace). t.is_stored) (bound.traces points inputs consumer x y (consuming consumer in_task) so_far
        (subst AreSmall (sym (loops_consuming consumer in_task)) small))
        ∙ ap (λ (t : loops.Values). (all (step in_task) (listed [] t) so_far).is_stored) (loops_consuming consumer in_task)
        ∙ list_tells (step in_task) (is_at x y) (listed [] in_task) (all_so AreWords (λ inner. Tells (step in_task inner) (is_at x y inner))
        (λ inner w. store_tells in_task inner w) (listed [] in_task) words) so_far

    -- loops store where they list the point
    pub loops_tell : (leaf : Stmt) → Repeats consumer leaf store (wholes extents splits []) → (inside : List Loop) (new_statement : Stmt)
        → HasLoops pipeline schedule boxes consumer counts leaf inside new_statement
        → (in_task : loops.Values) → AreSmall in_task → AllByRecursion AreWords (listed inside in_task)
        → Told new_statement in_task (list_any (is_at x y) (listed inside in_task))
    loops_tell leaf bound _ _ No_loops in_task small words so_far = leaf_tells leaf bound in_task small words so_far
    loops_tell leaf bound _ new_statement (One_outside inside mid inner body _ within nested does around run_around) in_task small words so_far =
        let lists : ℕ → List loops.Values = λ iteration. listed inside (loops.with mid.id iteration in_task) in
        let list_is : listed (inside ++ mid ∷ []) in_task ≡ upto (counts mid.id) lists = nest-append counts inside (mid ∷ []) (over_loops extents splits
        (λ (whole : loops.Values). whole ∷ [])) in_task in
        let all_words : AllByRecursion AreWords (upto (counts mid.id) lists) = subst (λ (l : List loops.Values). AllByRecursion AreWords l) list_is words in
        ap (λ (t : Trace). t.is_stored) (does.traces points inputs consumer x y (consuming consumer in_task) so_far)
        ∙ iterations_tell (counts mid.id) (counts mid.id) (omega arith) (λ iteration. traced body (with (record { func = consumer; id = mid.id }) iteration
        (consuming consumer in_task))) (is_at x y) lists
        (λ iteration below.
        subst (λ (v : Values). Tells (traced body v) (list_any (is_at x y) (lists iteration))) (sym (consuming_with consumer mid.id iteration in_task))
        (nests (record { func = consumer; inside = mid.id }) refl (loops.with mid.id iteration in_task) 0 inner body nested (list_any (is_at x y) (lists iteration))
        (loops_tell leaf bound inside inner within (loops.with mid.id iteration in_task) (small_with mid.id iteration in_task
        (omega (arith, below, iterations_few extents splits few are_splits mid.id)) small)
        (all_upto AreWords lists (counts mid.id) all_words iteration below))))
        so_far
        ∙ ap (λ (l : List loops.Values). so_far.is_stored || list_any (is_at x y) l) (sym list_is)
