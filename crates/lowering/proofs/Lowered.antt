-- The phases of a pipeline leave its pixels.
use Rattle.std.proofs.Common.{◌≡◌, ℕ, zero, suc, ◌<◌, ◌≤◌, Bool, true, false, cond, List, [], ◌∷◌, ◌++◌, map, length, Option, Some, None, refl, sym, ap, subst}
use Rattle.std.proofs.Common.{◌∙◌, arith, inl, inr, true≢false}
use Rattle.std.specs.Prelude.{◌&&◌, ◌||◌, ◌==◌, nat_lt, slice_get, Ok}
use Rattle.std.proofs.lemmas.Bool.{and_from, lt-ltb, cases_eq, ne_eqb}
use Rattle.halide_pipeline.specs.declared.definitions.Func.{Func}
use Rattle.halide_pipeline.specs.declared.definitions.Update.{Update}
use Rattle.halide_pipeline.specs.Pipelines.{Pipeline}
use Rattle.halide_pipeline.specs.WellFormed.{IsWellFormed, is_func_of}
use Rattle.halide_pipeline.specs.Words as word
use Rattle.halide_pipeline.specs.Pixel.{Planes, reads_of, func_plane, stage, pixels}
use Rattle.schedule.specs.declared.plans.FuncPlan.{FuncPlan}
use Rattle.schedule.specs.declared.schedules.Schedule.{Schedule}
use Rattle.schedule.specs.declared.placements.ComputeLevel.{ComputeLevel}
use Rattle.schedule.specs.declared.placements.ComputeLevel.TheVariants as places
use Rattle.schedule.specs.declared.placements.FuncPlacement.{FuncPlacement}
use Rattle.schedule.specs.Accepted.{IsAccepted, IsPlan, IsUpdateStage}
use Rattle.schedule.specs.Legal.{is_inlined, is_root}
use Rattle.schedule.specs.Placements as standing
use Rattle.schedule.specs.Placements.{standings_from}
use Rattle.schedule.proofs.Uses.{IsSome, output_standing, standing_some}
use Rattle.schedule_loops.proofs.AcceptedStages.{pair_at}
use Rattle.bounds_ranges.specs.Laws.{Lies, AnswerWords}
use Rattle.bounds.specs.declared.boxes.SourceBox.{SourceBox}
use Rattle.bounds.specs.declared.verdict.Boxes.{Boxes}
use Rattle.bounds.specs.Boxes.{no_loops, lasts_of}
use Rattle.bounds.specs.Extents.{box_in, extent, extents_of, word_at, corner_of}
use Rattle.bounds.specs.Verdict.{inferred}
use Rattle.bounds_laws.specs.Closure.{is_put_in, is_boxed}
use Rattle.bounds_laws.specs.Laws.{LiesIn, IsBoxed, IsComputed, consumer_in}
use Rattle.bounds_laws.proofs.BoxFacts.{HasBox, has_box}
use Rattle.bounds_laws.proofs.Closure.{all_reads_are_held}
use Rattle.bounds_laws.proofs.OwnReads.{output_lies}
use Rattle.bounds_laws.proofs.PutIn.{pair_there}
use Rattle.loop_ir.specs.declared.statements.Phase.{Phase}
use Rattle.loop_ir.specs.Buffers.{Points}
use Rattle.lowering.specs.Lowered.{IsStagePhase, Pure, Updating, ArePhasesOf, None_yet, IsNotAtRoot, AreLowered, No_func, Passed, Computed, tasks_of, DoPixels}
use Rattle.lowering.specs.Lowered.{LeaveOutput, PhasesDoPixels, PhasesLeaveOutput}
use Rattle.lowering.specs.Lowered as lowered
use Rattle.lowering.specs.Order.{Tasks, DoPhases, None_left, Same, One_more, AgreeThere}
use Rattle.lowering.specs.Phases.{DoesPhase}
use Rattle.lowering.specs.Planes.{held, has_point, box_points}
use Rattle.schedule_loops.specs.Visits.{owns}
use Rattle.lowering.specs.PurePhases.{is_at_root}
use Rattle.bounds.specs.Stages.{IsAtRoot}
use Rattle.lowering.specs.Stages.{is_at_loop, is_private_in, is_private, after_stages, DoesStage}
use Rattle.lowering.specs.Updates.{owns_update}
use Rattle.lowering.proofs.InOrder.{phases_in_order}
use Rattle.lowering.proofs.RootFacts.{offset_within, offset_back}

-- ---- one more phase after others

module _ (points : Points) (is_private : ℕ → Bool) where
  same_behind : (phases : List Tasks) (start between result : Planes) → DoPhases points is_private phases start between
      → AgreeThere points is_private between result
      → DoPhases points is_private phases start result
  same_behind _ _ _ result (None_left start) agree = Same [] start result result agree (None_left result)
  same_behind _ _ _ result (Same phases one other between like rest) agree = Same phases one other result like (same_behind phases other between result rest
      agree)
  same_behind _ _ _ result (One_more first others func_index owns start middle between phase rest) agree =
      One_more first others func_index owns start middle result phase
      (same_behind others middle between result rest agree)

  one_behind : (phases : List Tasks) (last : Tasks) (func_index : ℕ) (owns : ℕ → ℕ → ℕ
      → Bool) (start between result : Planes)
      → DoPhases points is_private phases start between
      → DoesPhase points is_private func_index between result last.count owns last.run → DoPhases points is_private (phases ++ last ∷ []) start result
  one_behind _ last func_index owns _ _ result (None_left start) phase = One_more last [] func_index owns start result result phase (None_left result)
  one_behind _ last func_index owns _ _ result (Same phases one other between like rest) phase =
      Same (phases ++ last ∷ []) one other result like (one_behind phases last func_index owns other between result rest
      phase)
  one_behind _ last func_index owns _ _ result (One_more first others mine theirs start middle between before rest)
      phase =
      One_more first (others ++ last ∷ []) mine theirs start middle result before (one_behind others last func_index owns middle between result rest phase)

map_behind : {A B : Type 0} (f : A → B) (xs : List A) (last : A) → map f (xs ++ last ∷ []) ≡ map f xs ++ f last ∷ []
map_behind f [] last = refl
map_behind f (x ∷ xs) last = ap (λ l. f x ∷ l) (map_behind f xs last)

module _ (pipeline : Pipeline) (schedule : Schedule) (boxes : Boxes) (accepted : IsAccepted pipeline schedule) (is : inferred pipeline schedule ≡ Ok boxes)
    (inputs : Planes) (begun : AnswerWords pipeline.inputs (reads_of inputs (pixels pipeline.funcs inputs 0))) where
  abbrev points : Points
  points = box_points boxes.funcs

  abbrev private : ℕ → Bool
  private = is_private schedule.standings

  abbrev before : ℕ → Planes
  before count = held boxes.funcs (pixels pipeline.funcs inputs count)

  abbrev do_tasks : List Phase → List Tasks
  do_tasks phases = map (tasks_of pipeline schedule boxes inputs) phases

  -- ---- the phases of a Func

  record Goes (func_index : ℕ) (func : Func) (number : ℕ) (phase : Phase) : Type 0 where
    owned : ℕ → ℕ → ℕ → Bool
    does : DoesStage pipeline schedule boxes func_index func number owned phase

  goes : (func_index : ℕ) (func : Func) (plan : FuncPlan) (own : SourceBox) (number : ℕ) (phase : Phase)
      → IsStagePhase pipeline schedule boxes func_index func plan own number phase → Goes func_index func number phase
  goes func_index func plan own _ _ (Pure phase tasks private_is bytes does touches few stores loop_lanes in_runs) =
      record {
        owned = owns (extents_of own) plan.pure;
        does = does;
      }
  goes func_index func plan own _ _ (Updating at update stage phase it tasks private_is bytes does touches few stores loop_lanes) =
      record { owned = owns_update own update stage; does = does }

  stages_do : (func_index : ℕ) (func : Func) (plan : FuncPlan) (own : SourceBox) (others phases : List Phase)
      (number : ℕ)
      → ArePhasesOf pipeline schedule boxes func_index func plan own others number phases
      → DoPhases points private (do_tasks others) (before 0) (before func_index)
      → DoPhases points private (do_tasks phases) (before 0) (held boxes.funcs (after_stages pipeline.funcs inputs func_index func number))
  stages_do func_index func plan own others _ _ None_yet start = start
  stages_do func_index func plan own others _ _ (lowered.One_more number phases phase rest one) start =
      let g = goes func_index func plan own number phase one in
      subst (λ l. DoPhases points private l (before 0) (held boxes.funcs (after_stages pipeline.funcs inputs func_index func (suc number))))
      (sym (map_behind (tasks_of pipeline schedule boxes inputs) phases phase))
      (one_behind points private (do_tasks phases) (tasks_of pipeline schedule boxes inputs phase) func_index g.owned (before 0)
      (held boxes.funcs (after_stages pipeline.funcs inputs func_index func number)) (held boxes.funcs (after_stages pipeline.funcs inputs func_index func (suc number)))
      (stages_do func_index func plan own others phases number rest start) (g.does inputs begun))

  -- ---- the step from the pixels of some Funcs to those of one more

  same_elsewhere : (func_index k x y : ℕ) → (k ≡ func_index → ⊥)
      → before func_index k x y ≡ before (suc func_index) k x y
  unfolding pixels
  same_elsewhere func_index k x y d =
      let corner = corner_of (box_in (slice_get boxes.funcs k)) in
      sym (ap (λ (b : Bool). cond b (func_plane func_index (slice_get pipeline.funcs func_index) inputs (pixels pipeline.funcs inputs func_index))
      (pixels pipeline.funcs inputs func_index k) (word.add corner.x x) (word.add corner.y y)) (ne_eqb k func_index d))

  -- no point that is shared is of a Func that has no phase
  nothing_shared : (func_index : ℕ) → IsNotAtRoot pipeline schedule boxes func_index → (x y : ℕ) → private func_index ≡ false → points func_index x y ≡ true → ⊥
  nothing_shared func_index not_root x y shared there = by_entry (slice_get boxes.funcs func_index) refl
    where
      by_place : (own : SourceBox) → slice_get boxes.funcs func_index ≡ Some (Some own) → (b : HasBox pipeline schedule boxes func_index own) → (where_ : ComputeLevel)
          → b.standing.place ≡ where_ → IsComputed func_index where_ → ⊥
      by_place own e b places.Root w c =
          let plan = pair_there IsPlan pipeline.funcs schedule.funcs func_index b.func accepted.plans b.func_is in
          not_root b.func plan.value own (record { func_is = b.func_is; plan_is = plan.is; box_is = e; standing = b.standing; there = b.there; placed_is = w })
      by_place own e b (places.At at) w c =
          true≢false (sym (ap is_private_in b.there.standing ∙ (ap (λ (r : Bool). r && is_at_loop b.standing.place) b.there.reached ∙ ap is_at_loop w))
          ∙ shared)
      by_place own e b places.Inlined w c = c
      by_place own e b places.Nowhere w c = c

      by_entry : (entry : Option (Option SourceBox)) → slice_get boxes.funcs func_index ≡ entry → ⊥
      by_entry None e = true≢false (sym there ∙ ap (λ (o : Option (Option SourceBox)). has_point (box_in o) x y) e)
      by_entry (Some None) e = true≢false (sym there ∙ ap (λ (o : Option (Option SourceBox)). has_point (box_in o) x y) e)
      by_entry (Some (Some own)) e = let b = has_box pipeline schedule boxes accepted is func_index own e in by_place own e b b.standing.place refl b.computed

  passed_agree : (func_index : ℕ) → IsNotAtRoot pipeline schedule boxes func_index → AgreeThere points private (before func_index) (before (suc func_index))
  passed_agree func_index not_root k x y shared there = elim (cases_eq k func_index) [
    | inl same ↦ absurd (nothing_shared func_index not_root x y (ap private (sym same) ∙ shared) (ap (λ (n : ℕ). points n x y) (sym same) ∙ there))
    | inr other ↦ same_elsewhere func_index k x y other
  ]

  done_agree : (func_index : ℕ) (func : Func) → slice_get pipeline.funcs func_index ≡ Some func
      → AgreeThere points private (held boxes.funcs (after_stages pipeline.funcs inputs func_index func (suc (length func.updates)))) (before (suc func_index))
  unfolding pixels
  done_agree func_index func found k x y shared there =
      let corner = corner_of (box_in (slice_get boxes.funcs k)) in
      let earlier = pixels pipeline.funcs inputs func_index in
      let mine : Option Func → ℕ = λ (own : Option Func). cond (k == func_index) (func_plane func_index own inputs earlier) (earlier k) (word.add corner.x x)
      (word.add corner.y y) in
      by_test (k == func_index) (word.add corner.x x) (word.add corner.y y) ∙ sym (ap mine found)
    where
      by_test : (test : Bool) (a b : ℕ) → cond test (stage func_index func inputs (pixels pipeline.funcs inputs func_index) (length func.updates))
          (pixels pipeline.funcs inputs func_index k) a b
          ≡ cond test (func_plane func_index (Some func) inputs (pixels pipeline.funcs inputs func_index)) (pixels pipeline.funcs inputs func_index k) a b
      by_test true a b = refl
      by_test false a b = refl

  -- ---- all of them

  funcs_do : (count : ℕ) (phases : List Phase) → AreLowered pipeline schedule boxes count phases
      → DoPhases points private (do_tasks phases) (before 0) (before count)
  funcs_do _ _ No_func = None_left (before 0)
  funcs_do _ _ (Passed func_index phases rest not_root) =
      same_behind points private (do_tasks phases) (before 0) (before func_index) (before (suc func_index)) (funcs_do func_index phases rest) (passed_agree func_index not_root)
  funcs_do _ _ (Computed func_index others phases func plan own rest at stages) =
      same_behind points private (do_tasks phases) (before 0) (held boxes.funcs (after_stages pipeline.funcs inputs func_index func (suc (length func.updates))))
      (before (suc func_index))
      (stages_do func_index func plan own others phases (suc (length func.updates)) stages (funcs_do func_index others rest)) (done_agree func_index func at.func_is)

pub phases_do_pixels : PhasesDoPixels
phases_do_pixels pipeline schedule boxes accepted is phases are inputs begun = funcs_do pipeline schedule boxes accepted is inputs begun (length pipeline.funcs)
    phases are

-- ---- the parts of a list of phases

module _ (pipeline : Pipeline) (schedule : Schedule) (boxes : Boxes) where
  module _ (func_index : ℕ) (func : Func) (plan : FuncPlan) (own : SourceBox) (others : List Phase) where
    pub one_stage : (phases more : List Phase) (number : ℕ) (phase : Phase) → ArePhasesOf pipeline schedule boxes func_index func plan own others number phases
        → IsStagePhase pipeline schedule boxes func_index func plan own number phase
        → more ≡ phases ++ phase ∷ [] → ArePhasesOf pipeline schedule boxes func_index func plan own others (suc number)
        more
    one_stage phases more number phase before one e =
        subst (λ l. ArePhasesOf pipeline schedule boxes func_index func plan own others (suc number) l) (sym e) (lowered.One_more number phases phase before one)

    pub nothing_yet : (phases : List Phase) (number : ℕ) → number ≡ 0 → phases ≡ others → ArePhasesOf pipeline schedule boxes func_index func plan own others number
        phases
    nothing_yet phases number none same =
        subst (λ (n : ℕ). ArePhasesOf pipeline schedule boxes func_index func plan own others n phases) (sym none)
        (subst (λ l. ArePhasesOf pipeline schedule boxes func_index func plan own others 0 l) (sym same) None_yet)

    pub stages_so : (phases more : List Phase) (number last : ℕ) → ArePhasesOf pipeline schedule boxes func_index func plan own others number phases → number ≡ last
        → more ≡ phases
        → ArePhasesOf pipeline schedule boxes func_index func plan own others last more
    stages_so phases more number last before e same =
        subst (λ (n : ℕ). ArePhasesOf pipeline schedule boxes func_index func plan own others n more) e (subst (λ l. ArePhasesOf pipeline schedule boxes func_index func
        plan own others number l) (sym same) before)

  pub nothing_lowered : (count : ℕ) (phases : List Phase) → count ≡ 0 → phases ≡ [] → AreLowered pipeline schedule boxes count phases
  nothing_lowered count phases none empty =
      subst (λ (n : ℕ). AreLowered pipeline schedule boxes n phases) (sym none) (subst (λ l. AreLowered pipeline schedule boxes 0 l) (sym empty) No_func)

  pub pure_is : (func_index : ℕ) (func : Func) (plan : FuncPlan) (own : SourceBox) (number : ℕ) (phase : Phase)
      → number ≡ 0
      → IsStagePhase pipeline schedule boxes func_index func plan own 0 phase
      → IsStagePhase pipeline schedule boxes func_index func plan own number phase
  pure_is func_index func plan own number phase none is = subst (λ (n : ℕ). IsStagePhase pipeline schedule boxes func_index func plan own n phase) (sym none) is

  root_passes : (own : FuncPlacement) (where_ : ComputeLevel) → own.place ≡ where_ → where_ ≡ places.Root → own.is_reached ≡ true → is_at_root own ≡ true
  root_passes own where_ p r reached = ap (λ (b : Bool). b && is_root own.place) reached ∙ (ap is_root p ∙ ap is_root r)

  -- no phase is of a Func that isn't known to stand at root
  pub not_standing : (func_index : ℕ) → slice_get schedule.standings func_index ≡ None
      → IsNotAtRoot pipeline schedule boxes func_index
  not_standing func_index none func plan own at = let found = at.there.standing in cc

  pub not_root : (func_index : ℕ) (placement : FuncPlacement) → slice_get schedule.standings func_index ≡ Some placement → is_at_root placement ≡ false
      → IsNotAtRoot pipeline schedule boxes func_index
  not_root func_index placement found fails func plan own at =
      let same : at.standing ≡ placement = let p = at.there.standing in cc in
      true≢false (sym (ap is_at_root (sym same) ∙ root_passes at.standing at.standing.place refl at.placed_is at.there.reached) ∙ fails)

  pub no_func : (func_index : ℕ) → slice_get pipeline.funcs func_index ≡ None
      → IsNotAtRoot pipeline schedule boxes func_index
  no_func func_index none func plan own at = let found = at.func_is in cc

  pub no_plan : (func_index : ℕ) → slice_get schedule.funcs func_index ≡ None
      → IsNotAtRoot pipeline schedule boxes func_index
  no_plan func_index none func plan own at = let found = at.plan_is in cc

  pub no_box : (func_index : ℕ) → box_in (slice_get boxes.funcs func_index) ≡ None
      → IsNotAtRoot pipeline schedule boxes func_index
  no_box func_index none func plan own at = let found : box_in (slice_get boxes.funcs func_index) ≡ Some own = ap box_in at.box_is in cc

pub past_end : {A : Type 0} (xs : List A) (k : ℕ) → slice_get xs k ≡ None → length xs ≤ k
past_end [] k none = omega arith
past_end (x ∷ xs) zero none = absurd cc
past_end (x ∷ xs) (suc k) none = omega (arith, past_end xs k none)

pub no_stage : (pipeline : Pipeline) (schedule : Schedule) (boxes : Boxes) → IsAccepted pipeline schedule
    → (func_index : ℕ) (func : Func) (plan : FuncPlan) (source_box : SourceBox) → IsAtRoot pipeline schedule boxes func_index func plan source_box
    → (at : ℕ) (update : Update) → slice_get func.updates at ≡ Some update → slice_get plan.updates at ≡ None → ⊥
no_stage pipeline schedule boxes accepted func_index func plan source_box root at update found none =
    let planned : IsPlan func plan = pair_at IsPlan pipeline.funcs schedule.funcs func_index func plan accepted.plans root.func_is root.plan_is in
    let stage = pair_there (IsUpdateStage func) func.updates plan.updates at update planned.updates found in
    let is = stage.is in
    cc

-- ---- the output

zero_pixels : (funcs : List Func) (inputs : Planes) (func_index x y : ℕ) → pixels funcs inputs 0 func_index x y ≡ 0
unfolding pixels
zero_pixels funcs inputs func_index x y = refl

record BoxOf (entry : Option (Option SourceBox)) : Type 0 where
  own : SourceBox
  is : entry ≡ Some (Some own)

boxed_one : (entry : Option (Option SourceBox)) (x y : ℕ) → is_boxed entry x y ≡ true → BoxOf entry
boxed_one None x y e = absurd cc
boxed_one (Some None) x y e = absurd cc
boxed_one (Some (Some own)) x y e = record { own = own; is = refl }

drawn_func : (func : Option Func) (n : ℕ) → is_func_of func n ≡ true → IsSome func
drawn_func None n e = absurd cc
drawn_func (Some func) n e = record { value = func; is = refl }

or_second : (a b : Bool) → a ≡ false → (a || b) ≡ true → b ≡ true
or_second true b f e = absurd cc
or_second false b f e = e

module _ (pipeline : Pipeline) (schedule : Schedule) (boxes : Boxes) (rules : IsWellFormed pipeline) (accepted : IsAccepted pipeline schedule)
    (is : inferred pipeline schedule ≡ Ok boxes)
    (inputs : Planes) (begun : AnswerWords pipeline.inputs (reads_of inputs (pixels pipeline.funcs inputs 0))) where
  abbrev output : ℕ
  output = pipeline.output.func

  all_standings : schedule.standings ≡ standings_from pipeline schedule.funcs 0 schedule.funcs
  unfolding standing.standings
  all_standings = accepted.standings

  own_standing : IsSome (slice_get schedule.standings output)
  own_standing =
      let drawn = drawn_func (slice_get pipeline.funcs output) pipeline.output.dimensions rules.drawn in
      let plan = pair_there IsPlan pipeline.funcs schedule.funcs output drawn.value accepted.plans drawn.is in
      subst (λ (l : List FuncPlacement). IsSome (slice_get l output)) (sym all_standings) (standing_some pipeline schedule.funcs 0 schedule.funcs output plan.value
      plan.is)

  known : (own_standing.value.is_reached ≡ true) × (own_standing.value.place ≡ places.Root)
  known = output_standing pipeline schedule.funcs own_standing.value (ap (λ (l : List FuncPlacement). slice_get l output) (sym all_standings) ∙ own_standing.is)

  output_shared : is_private schedule.standings output ≡ false
  output_shared =
      ap is_private_in own_standing.is ∙ (ap (λ (b : Bool). b && is_at_loop own_standing.value.place) known.0 ∙ ap is_at_loop known.1)

  output_computed : is_put_in (slice_get schedule.standings output) ≡ false
  output_computed = ap is_put_in own_standing.is ∙ (ap (λ (b : Bool). b && is_inlined own_standing.value.place) known.0 ∙ ap is_inlined known.1)

  module _ (x y : ℕ) (inside_x : x < pipeline.output.width) (inside_y : y < pipeline.output.height) where
    box_found : BoxOf (slice_get boxes.funcs output)
    box_found =
        boxed_one (slice_get boxes.funcs output) x y
        (or_second (is_put_in (slice_get schedule.standings output)) (is_boxed (slice_get boxes.funcs output) x y) output_computed
        (all_reads_are_held pipeline schedule boxes rules accepted is inputs begun x y inside_x inside_y).0)

    lasts_none : box_found.own.lasts ≡ no_loops
    lasts_none =
        let b = has_box pipeline schedule boxes accepted is output box_found.own box_found.is in
        let same : b.standing ≡ own_standing.value = let p = b.there.standing in let q = own_standing.is in cc in
        b.lasts ∙ (ap (λ (t : FuncPlacement). lasts_of (consumer_in schedule boxes.funcs t.place)) same
        ∙ ap (λ (p : ComputeLevel). lasts_of (consumer_in schedule boxes.funcs p)) known.1)

    lies : LiesIn no_loops box_found.own x y
    lies = subst (λ (e : Option (Option SourceBox)). IsBoxed no_loops e x y) box_found.is (output_lies pipeline schedule boxes rules is own_standing.value
        own_standing.is known.0 known.1 x y inside_x inside_y)

    lies_x : Lies no_loops no_loops box_found.own.x x
    lies_x = subst (λ (l : List ℕ). Lies l no_loops box_found.own.x x) lasts_none lies.first

    lies_y : Lies no_loops no_loops box_found.own.y y
    lies_y = subst (λ (l : List ℕ). Lies l no_loops box_found.own.y y) lasts_none lies.second

    abbrev far_x : ℕ
    far_x = word.subtract x (word_at box_found.own.x.low)

    abbrev far_y : ℕ
    far_y = word.subtract y (word_at box_found.own.y.low)

    there : box_points boxes.funcs output far_x far_y ≡ true
    there =
        ap (λ (e : Option (Option SourceBox)). has_point (box_in e) far_x far_y) box_found.is
        ∙ and_from (nat_lt far_x (extent box_found.own.x)) (nat_lt far_y (extent box_found.own.y)) (lt-ltb far_x (extent box_found.own.x)
        (offset_within box_found.own.x x lies_x))
        (lt-ltb far_y (extent box_found.own.y) (offset_within box_found.own.y y lies_y))

    abbrev held_in : Planes → Option (Option SourceBox) → ℕ → ℕ → ℕ
    held_in funcs entry i j = funcs output (word.add (corner_of (box_in entry)).x i) (word.add (corner_of (box_in entry)).y j)

    holds : (after : Planes) → AgreeThere (box_points boxes.funcs) (is_private schedule.standings) after
        (held boxes.funcs (pixels pipeline.funcs inputs (length pipeline.funcs)))
        → after output far_x far_y ≡ pixels pipeline.funcs inputs (length pipeline.funcs) output x y
    holds after agree =
        agree output far_x far_y output_shared there
        ∙ (ap (λ (e : Option (Option SourceBox)). held_in (pixels pipeline.funcs inputs (length pipeline.funcs)) e far_x far_y) box_found.is
        ∙ (ap (λ (n : ℕ). pixels pipeline.funcs inputs (length pipeline.funcs) output n (word.add (word_at box_found.own.y.low) far_y))
        (offset_back box_found.own.x x lies_x)
        ∙ ap (λ (n : ℕ). pixels pipeline.funcs inputs (length pipeline.funcs) output x n) (offset_back box_found.own.y y lies_y)))

pub phases_leave_output : PhasesLeaveOutput
phases_leave_output pipeline schedule boxes rules accepted is phases are inputs begun funcs after zeros done x y inside_x inside_y =
    let found = box_found pipeline schedule boxes rules accepted is inputs begun x y inside_x inside_y in (
      ap (λ (e : Option (Option SourceBox)). box_points boxes.funcs pipeline.output.func (word.subtract x (corner_of (box_in e)).x)
          (word.subtract y (corner_of (box_in e)).y)) found.is
          ∙ there pipeline schedule boxes rules accepted is inputs begun x y inside_x inside_y,
      ap (λ (e : Option (Option SourceBox)). after pipeline.output.func (word.subtract x (corner_of (box_in e)).x) (word.subtract y (corner_of (box_in e)).y))
          found.is
          ∙ holds pipeline schedule boxes rules accepted is inputs begun x y inside_x inside_y after
          (phases_in_order (box_points boxes.funcs) (is_private schedule.standings) (map (tasks_of pipeline schedule boxes inputs) phases)
          (held boxes.funcs (pixels pipeline.funcs inputs 0))
          (held boxes.funcs (pixels pipeline.funcs inputs (length pipeline.funcs))) (phases_do_pixels pipeline schedule boxes accepted is phases are inputs
          begun) funcs after
          (λ place i j shared inside. zeros place i j shared inside
          ∙ sym (zero_pixels pipeline.funcs inputs place (word.add (corner_of (box_in (slice_get boxes.funcs place))).x i)
          (word.add (corner_of (box_in (slice_get boxes.funcs place))).y j))) done),
    )
