-- What a Func reads of one that is computed at a loop lies in that one's box, wherever loops take the Func's arguments.
use Rattle.std.proofs.Common.{◌≡◌, ℕ, suc, ◌<◌, true, false, List, [], ◌∷◌, Option, Some, refl, sym, ap, ◌∙◌, subst, arith, inl, inr}
use Rattle.std.specs.Prelude.{slice_get}
use Rattle.std.specs.List.{AllByRecursion}
use Rattle.std.proofs.lemmas.Bool.{eqb-true}
use Rattle.halide_pipeline.specs.declared.definitions.Func.{Func}
use Rattle.halide_pipeline.specs.declared.expressions.Source.{Source}
use Rattle.halide_pipeline.specs.declared.expressions.Source.TheVariants as sources
use Rattle.halide_pipeline.specs.Pipelines.{Pipeline}
use Rattle.halide_pipeline.specs.Points.{Point}
use Rattle.schedule_lines.specs.declared.stages.LoopId.{LoopId}
use Rattle.schedule.specs.declared.plans.FuncPlan.{FuncPlan}
use Rattle.schedule.specs.declared.schedules.Schedule.{Schedule}
use Rattle.schedule.specs.declared.placements.LoopPosition.{LoopPosition}
use Rattle.schedule.specs.declared.placements.ComputeLevel.{ComputeLevel}
use Rattle.schedule.specs.declared.placements.ComputeLevel.TheVariants as places
use Rattle.schedule.specs.declared.placements.FuncPlacement.{FuncPlacement}
use Rattle.schedule.specs.Accepted.{IsProduced as HasConsumer, IsAccepted}
use Rattle.schedule.specs.Legal.{is_inlined}
use Rattle.schedule.specs.Uses.{IsReached, StandsWithin, Consumer, Computed}
use Rattle.schedule.proofs.Uses.{numbered_at}
use Rattle.schedule_loops.specs.Visits.{Values}
use Rattle.bounds_ranges.specs.Laws.{Below}
use Rattle.bounds.specs.declared.boxes.ConsumerLoop.{ConsumerLoop}
use Rattle.bounds.specs.declared.boxes.SourceBox.{SourceBox}
use Rattle.bounds.specs.Boxes.{lasts_of, same_source}
use Rattle.bounds_laws.specs.Callers.{ReadsThrough, IsReadThrough, AreReadThrough, StandsAt, HasLoop, IsWithin}
use Rattle.bounds_laws.specs.ConsumerLaws.{values_in, MayBeArguments, IsSeenIn, PureReadsInLoopsLie, UpdateReadsInLoopsLie}
use Rattle.bounds_laws.specs.Laws.{AreBoxed, values_for, consumer_in, IsComputed, pure_points, update_points}
use Rattle.bounds.specs.Views.{consumer_loop, view_of}
use Rattle.bounds_laws.proofs.Callers.{pure_points_are_read_through, update_points_are_read_through}
use Rattle.bounds_laws.proofs.FoundFuncs.{pure_reads_of_funcs_lie}
use Rattle.bounds_laws.proofs.InViews.{consumer_is, same, arguments_lie_in_views}
use Rattle.bounds_laws.proofs.StandingWithin.{flag_is, readers_stand_within}
use Rattle.bounds_laws.proofs.Updates.{update_reads_of_funcs_lie}

-- What holds of all points if one of some source is read within a loop holds of each that is.
given : (values : List ℕ) (source : Source) (own : Option (Option SourceBox)) (Within : Type 0) (points : List Point)
    → AllByRecursion (λ point. same_source point.source source ≡ true → Within) points
    → (Within → AreBoxed values source own points) → AreBoxed values source own points
given values source own Within [] within boxed = tt
given values source own Within (point ∷ points) within boxed = (
  λ e. (boxed (within.0 e)).0 e,
  given values source own Within points within.1
      (λ w. (boxed w).1),
)

-- a reader at root, or at a loop of a later Func
computed_place : (pipeline : Pipeline) (schedule : Schedule) → IsAccepted pipeline schedule → (reader : ℕ) (its : FuncPlacement)
    → slice_get schedule.standings reader ≡ Some its
    → (func : Func) (plan : FuncPlan) (consuming : SourceBox) (id : LoopId) (iterations : Values) (level : ComputeLevel) (source_box : SourceBox) (x y : ℕ) → its.place ≡ level
    → MayBeArguments func plan consuming id iterations level source_box x y → IsComputed reader level × (is_inlined level ≡ false)
computed_place pipeline schedule accepted reader its there func plan consuming id iterations places.Root source_box x y placed may_be = (tt, refl)
computed_place pipeline schedule accepted reader its there func plan consuming id iterations (places.At at) source_box x y placed may_be =
    (omega (arith, (numbered_at (HasConsumer pipeline schedule.funcs) 0 schedule.standings accepted.consumers reader its there at placed).later), refl)
computed_place pipeline schedule accepted reader its there func plan consuming id iterations places.Inlined source_box x y placed may_be = absurd may_be
computed_place pipeline schedule accepted reader its there func plan consuming id iterations places.Nowhere source_box x y placed may_be = absurd may_be

-- ---- each point of the Func at a loop is read within that loop

module _ (pipeline : Pipeline) (schedule : Schedule) (accepted : IsAccepted pipeline schedule) (func_index : ℕ) (sought : FuncPlacement)
    (there : slice_get schedule.standings func_index ≡ Some sought)
    (at : LoopPosition) (placed : sought.place ≡ places.At at) (reader : ℕ) (its : FuncPlacement) (its_there : IsReached schedule.standings reader its)
    (computed : IsComputed reader its.place) (before : func_index < reader) where
  abbrev Within : Type 0
  Within = StandsWithin pipeline schedule.funcs schedule.standings at reader

  stands_so : StandsAt schedule at reader → Within
  stands_so (HasLoop e) = subst (λ (n : ℕ). StandsWithin pipeline schedule.funcs schedule.standings at n) (sym e) Consumer
  stands_so (IsWithin own inner reached inner_is within) = Computed reader own inner reached inner_is within

  by_read : (func : ℕ) → func ≡ func_index → ReadsThrough pipeline schedule.standings reader func → Within
  by_read func is through =
      let found = readers_stand_within pipeline schedule accepted reader its its_there computed func through in
      let own_is : found.own ≡ sought = same found.own sought (sym found.there.standing ∙ ap (λ (n : ℕ). slice_get schedule.standings n) is ∙ there) in
      stands_so (found.within at (ap (λ (s : FuncPlacement). s.place) own_is ∙ placed))

  one_within : (count : ℕ) (s : Source) → IsReadThrough pipeline schedule.standings reader count s → same_source s (sources.Func func_index) ≡ true → Within
  one_within count (sources.Input input) read e = absurd cc
  one_within count (sources.Func func) read e =
      let is : func ≡ func_index = eqb-true func func_index e in
      elim (read.1.1) [
        | inl own ↦ absurd (omega (arith, before, is, own))
        | inr through ↦ by_read func is through
      ]

  all_within : (count : ℕ) (points : List Point) → AreReadThrough pipeline schedule.standings reader count points
      → AllByRecursion (λ point. same_source point.source (sources.Func func_index) ≡ true → Within) points
  all_within count [] all = tt
  all_within count (point ∷ points) all = (one_within count point.source all.0, all_within count points all.1)

pub pure_reads_in_loops_lie : PureReadsInLoopsLie
pure_reads_in_loops_lie pipeline schedule boxes rules accepted is place sought at there reached placed func plan consuming func_is plan_is consuming_is reader
    reading its own before reading_is its_there its_reached own_is reads words iterations x y may_be =
    given (values_in plan at.inside iterations) (sources.Func place) (slice_get boxes.funcs place) (StandsWithin pipeline schedule.funcs schedule.standings at
    reader) (pure_points pipeline schedule reads reader reading x y)
    (all_within pipeline schedule accepted place sought there at placed reader its (record { standing = its_there; reached = its_reached })
    (computed_place pipeline schedule accepted reader its its_there func plan consuming at.inside iterations its.place own x y refl may_be).0 before reader
    (pure_points pipeline schedule reads reader reading x y)
    (pure_points_are_read_through pipeline schedule rules reader reading reading_is reads x y))
    (λ within.
    let seen = arguments_lie_in_views pipeline schedule boxes accepted is place sought at there reached placed func plan consuming func_is plan_is consuming_is
    reader its own its_there its_reached own_is within iterations x y may_be in
    let produced : consumer_in schedule boxes.funcs sought.place ≡ Some (consumer_loop plan consuming at.inside) = consumer_is schedule boxes.funcs sought.place
    at at.func plan consuming placed refl plan_is consuming_is in
    let later : place < at.func = omega (
      arith,
      (numbered_at (HasConsumer pipeline schedule.funcs) 0 schedule.standings accepted.consumers place sought there at
          placed).later,
    ) in
    let by_consumer : (consumer : Option ConsumerLoop) → consumer_in schedule boxes.funcs sought.place ≡ consumer
    → values_for consumer (values_in plan at.inside iterations) ≡ values_in plan at.inside iterations
    → IsSeenIn (values_in plan at.inside iterations) consumer (view_of (slice_get schedule.funcs reader) (slice_get schedule.standings reader) own consumer) x y
    → AreBoxed (values_in plan at.inside iterations) (sources.Func place) (slice_get boxes.funcs place) (pure_points pipeline schedule reads reader reading x y) =
    λ consumer h v s.
    subst (λ (l : List ℕ). AreBoxed l (sources.Func place) (slice_get boxes.funcs place) (pure_points pipeline schedule reads reader reading x y)) v
    (pure_reads_of_funcs_lie pipeline schedule boxes rules is reader reading own reading_is own_is place sought before there reached
    (subst (λ (p : ComputeLevel). IsComputed place p) (sym placed) later) consumer h
    (view_of (slice_get schedule.funcs reader) (slice_get schedule.standings reader) own consumer) refl reads words (values_in plan at.inside iterations) s.below
    (subst (λ (l : List ℕ). Below l (lasts_of consumer)) (sym v) s.produced) x y s.lies) in
    by_consumer (Some (consumer_loop plan consuming at.inside)) produced refl
    (subst (λ (h : Option ConsumerLoop). IsSeenIn (values_in plan at.inside iterations) h (view_of (slice_get schedule.funcs reader) (slice_get schedule.standings
    reader) own h) x y) produced seen))

pub update_reads_in_loops_lie : UpdateReadsInLoopsLie
update_reads_in_loops_lie pipeline schedule boxes rules accepted is place sought at there reached placed func plan consuming func_is plan_is consuming_is reader
    reading its own before reading_is its_there its_reached own_is number_at update update_is reads words iterations x y may_be near_x near_y number few =
    given (values_in plan at.inside iterations) (sources.Func place) (slice_get boxes.funcs place) (StandsWithin pipeline schedule.funcs schedule.standings at
    reader) (update_points pipeline schedule reads reader update number x y)
    (all_within pipeline schedule accepted place sought there at placed reader its (record { standing = its_there; reached = its_reached })
    (computed_place pipeline schedule accepted reader its its_there func plan consuming at.inside iterations its.place own x y refl may_be).0 before (suc reader)
    (update_points pipeline schedule reads reader update number x y)
    (update_points_are_read_through pipeline schedule rules reader reading reading_is
    (flag_is schedule.standings reader its its_there ∙ (computed_place pipeline schedule accepted reader its its_there func plan consuming at.inside iterations
    its.place own x y refl may_be).1)
    number_at update update_is reads number x y))
    (λ within.
    let seen = arguments_lie_in_views pipeline schedule boxes accepted is place sought at there reached placed func plan consuming func_is plan_is consuming_is
    reader its own its_there its_reached own_is within iterations x y may_be in
    let produced : consumer_in schedule boxes.funcs sought.place ≡ Some (consumer_loop plan consuming at.inside) = consumer_is schedule boxes.funcs sought.place
    at at.func plan consuming placed refl plan_is consuming_is in
    let later : place < at.func = omega (
      arith,
      (numbered_at (HasConsumer pipeline schedule.funcs) 0 schedule.standings accepted.consumers place sought there at
          placed).later,
    ) in
    let by_consumer : (consumer : Option ConsumerLoop) → consumer_in schedule boxes.funcs sought.place ≡ consumer
    → values_for consumer (values_in plan at.inside iterations) ≡ values_in plan at.inside iterations
    → IsSeenIn (values_in plan at.inside iterations) consumer (view_of (slice_get schedule.funcs reader) (slice_get schedule.standings reader) own consumer) x y
    → AreBoxed (values_in plan at.inside iterations) (sources.Func place) (slice_get boxes.funcs place) (update_points pipeline schedule reads reader update number x
    y) =
    λ consumer h v s.
    subst (λ (l : List ℕ). AreBoxed l (sources.Func place) (slice_get boxes.funcs place) (update_points pipeline schedule reads reader update number x y)) v
    (update_reads_of_funcs_lie pipeline schedule boxes rules is reader reading own reading_is own_is number_at update update_is place sought before there
    reached (subst (λ (p : ComputeLevel). IsComputed place p) (sym placed) later) consumer h
    (view_of (slice_get schedule.funcs reader) (slice_get schedule.standings reader) own consumer) refl reads words (values_in plan at.inside iterations) s.below
    (subst (λ (l : List ℕ). Below l (lasts_of consumer)) (sym v) s.produced) x y s.lies near_x near_y number few) in
    by_consumer (Some (consumer_loop plan consuming at.inside)) produced refl
    (subst (λ (h : Option ConsumerLoop). IsSeenIn (values_in plan at.inside iterations) h (view_of (slice_get schedule.funcs reader) (slice_get schedule.standings
    reader) own h) x y) produced seen))
