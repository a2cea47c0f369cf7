-- All loops of an update around its store, where the Func is computed at a loop.
use Rattle.std.proofs.Common.{◌≡◌, ℕ, suc, ◌<◌, Bool, true, false, List, [], map, Some, refl, sym, ap, subst, ◌∙◌, arith}
use mathlib.Core.Path.{fun_ext}
use Rattle.std.specs.Prelude.{slice_get, Ok}
use Rattle.std.specs.List.{AllByRecursion, list_all, list_any}
use Rattle.std.proofs.lemmas.List.{append-nil}
use Rattle.halide_pipeline.specs.declared.definitions.Func.{Func}
use Rattle.halide_pipeline.specs.declared.definitions.Update.{Update}
use Rattle.halide_pipeline.specs.declared.expressions.Source.TheVariants as sources
use Rattle.halide_pipeline.specs.declared.expressions.Variable.TheVariants as variables
use Rattle.halide_pipeline.specs.WellFormed.{is_first_in_place, is_second_in_place, IsWellFormed}
use Rattle.halide_pipeline.specs.Pipelines.{Pipeline}
use Rattle.halide_pipeline.specs.Words as word
use Rattle.halide_pipeline.specs.Pixel.{Planes, points}
use Rattle.schedule_lines.specs.declared.stages.LoopId.TheVariants as ids
use Rattle.schedule_lines.specs.declared.stages.Stage.{Stage}
use Rattle.schedule.specs.declared.plans.FuncPlan.{FuncPlan}
use Rattle.schedule.specs.declared.schedules.Schedule.{Schedule}
use Rattle.schedule.specs.declared.placements.FuncPlacement.{FuncPlacement}
use Rattle.schedule.specs.Accepted.{IsAccepted}
use Rattle.schedule_loops.specs.declared.extents.Extents.{Extents}
use Rattle.schedule_loops.specs.Visits as loops
use Rattle.schedule_loops.specs.Reach.{wholes}
use Rattle.schedule_loops.specs.Stages.{IsStageOf, KeepsRules, IsVisitOf}
use Rattle.schedule_loops.specs.Visits.{Visit, visit_of, slice, rising, zeros}
use Rattle.schedule_loops.proofs.Bounded.{within}
use Rattle.bounds.specs.declared.boxes.SourceBox.{SourceBox}
use Rattle.bounds.specs.declared.verdict.Boxes.{Boxes}
use Rattle.bounds.specs.Verdict.{inferred}
use Rattle.bounds_laws.specs.Laws.{IsComputed}
use Rattle.bounds_laws.proofs.PutIn.{flags}
use Rattle.bounds_laws.proofs.StandingWithin.{one_standing}
use Rattle.loop_ir.specs.declared.statements.Stmt.{Stmt}
use Rattle.loop_ir.specs.Counters.{Values}
use Rattle.loop_ir.specs.Running.{run}
use Rattle.loop_ir.specs.Soundness.{is_sound}
use Rattle.lowering_nests.specs.Nests.{loops_of, put_loops, all, AreSmall, Repeats}
use Rattle.lowering_expressions.specs.declared.calls.Corner.{Corner}
use Rattle.lowering_expressions.specs.Lowering.{placed, place as place_in}
use Rattle.lowering.specs.Planes.{has_point, box_points}
use Rattle.bounds.specs.Extents.{BoxCorner, update_extents}
use Rattle.lowering.specs.Updates.{IsComputedIn, IsUpdateAt, StoresUpdate, IsSoundUpdate, DoesUpdate, AreSoundLoops, in_place, is_visited, IsCornerAt}
use Rattle.lowering.specs.Updates.{stage_from}
use Rattle.lowering.proofs.Lists.{all_pass}
use Rattle.lowering.proofs.UpdateFacts.{has_reduction, points_are}
use Rattle.lowering.proofs.UpdateRuns.{members, all_so, leaves, stays}
use Rattle.lowering.proofs.UpdateSlices.{slice_there}
use Rattle.lowering.proofs.UpdateStages.{staged}
use Rattle.lowering.proofs.UpdateSteps.{ReadsOwn}
use Rattle.lowering.proofs.UpdateTouches.{all_sound}
use Rattle.lowering.proofs.UpdateVisits.{all_listed, all_in_order, all_within}

module _ (pipeline : Pipeline) (schedule : Schedule) (boxes : Boxes) (rules : IsWellFormed pipeline) (accepted : IsAccepted pipeline schedule)
    (is : inferred pipeline schedule ≡ Ok boxes)
    (corners : List Corner) (func_index : ℕ) (func : Func) (plan : FuncPlan) (source_box : SourceBox) (at_it : IsComputedIn pipeline schedule boxes func_index func plan source_box)
    (at : ℕ) (update : Update) (stage : Stage) (it : IsUpdateAt schedule func_index func plan at update stage)
    (corner : Corner) (corner_there : slice_get corners func_index ≡ Some corner)
    (store : Stmt) (stores : StoresUpdate corners (flags pipeline schedule) pipeline.funcs func_index corner update
    store)
    (statement : Stmt) (repeats : Repeats func_index statement store (wholes (update_extents source_box update) stage.splits stage.loops)) where
  abbrev extents : Extents
  extents = update_extents source_box update

  stage_facts : IsStageOf func (Some update) stage × KeepsRules stage
  stage_facts = staged pipeline schedule accepted func_index func plan at_it.standing at_it.func_is at_it.there at update stage it

  abbrev list : List loops.Values
  list = wholes extents stage.splits stage.loops zeros

  abbrev in_all : ℕ → ℕ → Bool
  in_all i j = has_point (Some source_box) i j

  all_visits : AllByRecursion (IsVisitOf func (Some update) extents) (map (visit_of extents) list)
  all_visits = subst (λ (l : List Visit). AllByRecursion (IsVisitOf func (Some update) extents) l) (all_listed func update extents stage stage_facts.0 func_index)
      (all_within func update extents stage stage_facts.0 func_index)

  reduced : AllByRecursion (λ inner. inner (ids.Whole variables.FirstReduction) < update.first.extent) list
  reduced = within func (Some update) extents stage stage.loops [] variables.FirstReduction zeros stage_facts.0 (sym (append-nil stage.loops))
      (has_reduction func update) tt

  closed : AllByRecursion (λ visit. (i j : ℕ) → has_point (Some source_box) i j ≡ true
      → is_visited update i j visit ≡ true
      → has_point (Some source_box) i j ≡ true) (map (visit_of extents) list)
  closed =
      all_so (λ visit. (test : Visit → Bool) → test visit ≡ true → list_any test (map (visit_of extents) list) ≡ true) (λ visit. (i j : ℕ)
      → has_point (Some source_box) i j ≡ true → is_visited update i j visit ≡ true
      → has_point (Some source_box) i j ≡ true)
      (λ visit member i j boxed on. boxed) (map (visit_of extents) list) (members (map (visit_of extents) list))

  in_order : (i j : ℕ) → has_point (Some source_box) i j ≡ true
      → slice (in_place (is_first_in_place update) i) (in_place (is_second_in_place update) j) (map (visit_of extents) list)
      ≡ rising (in_place (is_first_in_place update) i) (in_place (is_second_in_place update) j) 0 (points update)
  in_order i j e =
      let c = in_place (is_first_in_place update) i in
      let r = in_place (is_second_in_place update) j in
      ap (slice c r) (sym (all_listed func update extents stage stage_facts.0 func_index))
      ∙ all_in_order func update extents stage stage_facts.0 func_index c r
      (slice_there func update source_box pipeline.inputs pipeline.funcs func_index ((rules.funcs func_index func at_it.func_is).updates at update it.update_is) i j e)
      ∙ ap (rising c r 0) (points_are func update source_box)

  own_read : (inputs : Planes) (begin : BoxCorner) (values : Values) → IsCornerAt func_index values corner begin → ReadsOwn corners func_index values inputs begin
  unfolding placed
  own_read inputs begin values corner_is inner buffers a b = rw (corner_there, (corner_is inner).0, (corner_is inner).1) refl

  pub does_nest : DoesUpdate pipeline schedule boxes corners func_index func corner source_box at update statement
  does_nest inputs begun standing there iterations below begin begins values corner_is not_begun funcs reads_others holds =
      record {
        does = λ i j e. ap (λ (f : Planes). f func_index i j) ran ∙ left i j e;
        keeps = λ other i j free. ap (λ (f : Planes). f other i j) ran ∙ kept other i j free;
      }
    where
      computed : IsComputed func_index standing.place
      computed = subst (λ (s : FuncPlacement). IsComputed func_index s.place) (one_standing schedule.standings func_index at_it.standing standing at_it.there.standing
          there.standing) at_it.computed

      begun_none : loops_of func_index values ≡ zeros
      begun_none = fun_ext not_begun

      small : AreSmall (loops_of func_index values)
      small id = omega (arith, not_begun id)

      ran : run (box_points boxes.funcs) inputs statement values funcs ≡ all (λ inner. run (box_points boxes.funcs) inputs store (put_loops func_index inner values)) list
          funcs
      ran =
          repeats.runs (box_points boxes.funcs) inputs values funcs small
          ∙ ap (λ (t : loops.Values). all (λ inner. run (box_points boxes.funcs) inputs store (put_loops func_index inner values)) (wholes extents stage.splits
          stage.loops t) funcs) begun_none

      reads_own : ReadsOwn corners func_index values inputs begin
      reads_own = own_read inputs begin values corner_is

      left : (i j : ℕ) → has_point (Some source_box) i j ≡ true → all (λ inner. run (box_points boxes.funcs) inputs store (put_loops func_index inner values)) list funcs
          func_index i j ≡ stage_from pipeline inputs func_index func begin (suc at) i j
      left i j e =
          leaves pipeline schedule boxes rules accepted is func_index func source_box at_it.func_is at_it.box_is standing there computed at update it.update_is inputs begun
          iterations below begin begins corners values corner corner_is reads_own
          store stores funcs reads_others list all_visits reduced in_all (λ i j e. e) closed in_order holds i j e

      kept : (other i j : ℕ) → (other ≡ func_index → has_point (Some source_box) i j ≡ false)
          → all (λ inner. run (box_points boxes.funcs) inputs store (put_loops func_index inner values)) list funcs other i j ≡ funcs other i j
      kept other i j free =
          stays pipeline schedule boxes rules accepted is func_index func source_box at_it.func_is at_it.box_is standing there computed at update it.update_is inputs begun
          iterations below begin begins corners values corner corner_is reads_own
          store stores funcs reads_others list all_visits reduced in_all (λ i j e. e) closed in_order holds other i j free

  -- ---- what it touches

  pub sound_nest : IsSoundUpdate corners (flags pipeline schedule) pipeline.funcs func_index corner update store
      → AreSoundLoops pipeline schedule boxes corners func_index corner source_box update statement
  sound_nest sound reads words written loaded writes loads standing there iterations below begin begins values corner_is not_begun others =
      repeats.sound reads written loaded values (λ id. omega (arith, not_begun id))
      ∙ ap (λ (t : loops.Values). list_all (λ inner. is_sound reads written loaded store (put_loops func_index inner values)) (wholes extents stage.splits
      stage.loops t)) (fun_ext not_begun)
      ∙ all_pass (λ inner. is_sound reads written loaded store (put_loops func_index inner values)) list
      (all_sound pipeline schedule boxes rules is func_index func source_box at_it.func_is at_it.box_is standing there computed at update it.update_is iterations below begin
      begins corners values corner corner_is store sound
      reads words written loaded own_placed others in_all writes loads list all_visits reduced closed)
    where
      computed : IsComputed func_index standing.place
      computed = subst (λ (s : FuncPlacement). IsComputed func_index s.place) (one_standing schedule.standings func_index at_it.standing standing at_it.there.standing
          there.standing) at_it.computed

      own_placed : (inner : loops.Values) (a b : ℕ) → place_in corners (put_loops func_index inner values) (record { source = sources.Func func_index; x = a; y = b })
          ≡ record { source = sources.Func func_index; x = word.subtract a begin.x; y = word.subtract b begin.y }
      own_placed inner a b = rw (corner_there, (corner_is inner).0, (corner_is inner).1) refl
