-- Which stages are listed; that each has an iteration, and that those of a pure definition write all points of its Func's box.
use Rattle.std.proofs.Common.{◌≡◌, ℕ, zero, suc, ◌*◌, ◌<◌, ◌≤◌, ◌⊎◌, Bool, true, false, cond, List, [], ◌∷◌, ◌++◌, length, Option, Some, None, refl, sym, ap}
use Rattle.std.proofs.Common.{subst, ◌∙◌, arith, inl, inr, true≢false}
use Rattle.std.specs.Prelude.{◌&&◌, not, nat_lt, is_some, slice_get, Ok}
use Rattle.std.proofs.lemmas.Bool.{and_from, cases_eq, cases_lt, lt-ltb}
use Rattle.std.proofs.Math.Nat.{mul-le-mul}
use Rattle.halide_pipeline.specs.declared.definitions.Func.{Func}
use Rattle.halide_pipeline.specs.declared.definitions.Update.{Update}
use Rattle.halide_pipeline.specs.declared.expressions.Variable.TheVariants as variables
use Rattle.halide_pipeline.specs.Pipelines.{Pipeline}
use Rattle.halide_pipeline.specs.Pixel.{Planes, second_extent}
use Rattle.halide_pipeline.specs.WellFormed.{IsWellFormed}
use Rattle.schedule_lines.specs.declared.stages.Stage.{Stage}
use Rattle.schedule.specs.declared.plans.FuncPlan.{FuncPlan}
use Rattle.schedule.specs.declared.schedules.Schedule.{Schedule}
use Rattle.schedule.specs.declared.placements.ComputeLevel.{ComputeLevel}
use Rattle.schedule.specs.declared.placements.ComputeLevel.TheVariants as places
use Rattle.schedule.specs.declared.placements.FuncPlacement.{FuncPlacement}
use Rattle.schedule.specs.Accepted.{IsAccepted, IsPlan, IsUpdateStage}
use Rattle.schedule.specs.Legal.{is_inlined, is_root}
use Rattle.schedule.proofs.Uses.{IsSome}
use Rattle.schedule_loops.specs.declared.extents.Extents.{Extents}
use Rattle.schedule_loops.specs.Visits.{HasOwner, visits_in, iteration_count, owns, is_slice, rising, slice, upto, visits}
use Rattle.schedule_loops.specs.Stages.{IsStageOf, KeepsRules, extent_in, first_loops, has_variable, is_slice_of, points_of}
use Rattle.schedule_loops.proofs.AcceptedStages.{pair_at}
use Rattle.schedule_loops.proofs.Parallel.{all_iterations, slice_owner}
use Rattle.schedule_loops.proofs.Rising.{slice_is}
use Rattle.bounds.specs.declared.boxes.SourceBox.{SourceBox}
use Rattle.bounds.specs.declared.verdict.Boxes.{Boxes}
use Rattle.bounds.specs.Extents.{box_in, extent, extents_of, update_extents}
use Rattle.bounds.specs.Verdict.{inferred}
use Rattle.bounds_laws.specs.Reached.{is_computed_there}
use Rattle.bounds_laws.proofs.BoxFacts.{has_box}
use Rattle.bounds_laws.proofs.PutIn.{pair_there}
use Rattle.bounds_laws.proofs.Reached.{boxes_are_of_reached_funcs}
use Rattle.bounds.specs.Stages.{IsAtRoot, StagePosition, stages_to, stages_where, stages_at, stages_below, iterations, iterations_in, iterations_of}
use Rattle.bounds.specs.Stages.{update_iterations, writes, writes_in, writes_of}
use Rattle.lowering.specs.Updates.{IsUpdateAt}
use Rattle.lowering.proofs.Covered as covered
use Rattle.lowering.proofs.Facts.{fits, is_box, staged}
use Rattle.lowering.proofs.Lists.{none_kept}
use Rattle.lowering.proofs.Tasks.{some_owner}
use Rattle.lowering.proofs.UpdateFacts.{first_extent, points_are, second_few}
use Rattle.lowering.proofs.UpdateStages as updates
use Rattle.vector_codegen_laws.specs.Whole.{reached_at, reached_below, StagesAreReached, StagesHaveIterations, IsWritten, PureStagesWriteAll}

-- ---- lists

some_at : {A : Type 0} (xs : List A) (k : ℕ) → k < length xs → IsSome (slice_get xs k)
some_at [] k l = absurd (omega (arith, l))
some_at (first ∷ xs) zero l = record { value = first; is = refl }
some_at (first ∷ xs) (suc k) l = some_at xs k (omega (arith, l))

-- one of two lists, one after the other, has it
either_has : {A : Type 0} (xs ys : List A) (k : ℕ) (x : A) → slice_get (xs ++ ys) k ≡ Some x → (slice_get xs k ≡ Some x) ⊎ ((j : ℕ) × (slice_get ys j ≡ Some x))
either_has [] ys k x found = inr (k, found)
either_has (first ∷ xs) ys zero x found = inl found
either_has (first ∷ xs) ys (suc k) x found = either_has xs ys k x found

record IsStageOfFunc (func number : ℕ) (stage : StagePosition) : Type 0 where
  func_is : stage.func ≡ func
  below : stage.number < number

one_has : (func number k : ℕ) (stage : StagePosition) → slice_get (record { func = func; number = number } ∷ []) k ≡ Some stage
    → IsStageOfFunc func (suc number) stage
one_has func number zero stage found =
    let same : record { func = func; number = number } ≡ stage = cc in
    record { func_is = ap (λ (s : StagePosition). s.func) (sym same); below = subst (λ (s : StagePosition). s.number < suc number) same (omega arith) }
one_has func number (suc k) stage found = absurd cc

to_has : (func number k : ℕ) (stage : StagePosition) → slice_get (stages_to func number) k ≡ Some stage → IsStageOfFunc func number stage
to_has func zero k stage found = absurd cc
to_has func (suc number) k stage found = elim (either_has (stages_to func number) (record { func = func; number = number } ∷ []) k stage found) [
  | inl here ↦ let told = to_has func number k stage here in record { func_is = told.func_is; below = omega (arith, told.below) }
  | inr last ↦ one_has func number last.0 stage last.1
]

module _ (pipeline : Pipeline) (schedule : Schedule) (boxes : Boxes) where
  -- ---- which stages are listed

  pub record IsListed (stage : StagePosition) : Type 0 where
    pub func : Func
    pub standing : FuncPlacement
    pub own : SourceBox
    pub func_is : slice_get pipeline.funcs stage.func ≡ Some func
    pub standing_is : slice_get schedule.standings stage.func ≡ Some standing
    pub at_root : standing.place ≡ places.Root
    pub box_is : slice_get boxes.funcs stage.func ≡ Some (Some own)
    pub few : stage.number ≤ length func.updates

  listed_where : (place k : ℕ) (stage : StagePosition) (standing : FuncPlacement) (func : Func) (own : Option SourceBox) (at : ComputeLevel)
      → slice_get schedule.standings place ≡ Some standing
      → slice_get pipeline.funcs place ≡ Some func → slice_get boxes.funcs place ≡ Some own → standing.place ≡ at → slice_get (stages_where at func own place) k
      ≡ Some stage → IsListed stage
  listed_where place k stage standing func None places.Root s f b at found = absurd cc
  listed_where place k stage standing func (Some own) places.Root s f b at found =
      let told = to_has place (suc (length func.updates)) k stage found in
      let here = sym told.func_is in
      record {
        func = func;
        standing = standing;
        own = own;
        func_is = subst (λ (n : ℕ). slice_get pipeline.funcs n ≡ Some func) here f;
        standing_is = subst (λ (n : ℕ). slice_get schedule.standings n ≡ Some standing) here s;
        at_root = at;
        box_is = subst (λ (n : ℕ). slice_get boxes.funcs n ≡ Some (Some own)) here b;
        few = omega (arith, told.below);
      }
  listed_where place k stage standing func own places.Inlined s f b at found = absurd cc
  listed_where place k stage standing func own (places.At loop) s f b at found = absurd cc
  listed_where place k stage standing func own places.Nowhere s f b at found = absurd cc

  listed_at : (place k : ℕ) (stage : StagePosition) (standing : Option FuncPlacement) (func : Option Func) (own : Option (Option SourceBox))
      → slice_get schedule.standings place ≡ standing
      → slice_get pipeline.funcs place ≡ func → slice_get boxes.funcs place ≡ own → slice_get (stages_at place standing func own) k ≡ Some stage
      → IsListed stage
  listed_at place k stage None func own s f b found = absurd cc
  listed_at place k stage (Some standing) None own s f b found = absurd cc
  listed_at place k stage (Some standing) (Some func) None s f b found = absurd cc
  listed_at place k stage (Some standing) (Some func) (Some own) s f b found = listed_where place k stage standing func own standing.place s f b refl found

  listed_below : (count k : ℕ) (stage : StagePosition) → slice_get (stages_below pipeline schedule boxes count) k ≡ Some stage → IsListed stage
  listed_below zero k stage found = absurd cc
  listed_below (suc place) k stage found = elim (either_has (stages_below pipeline schedule boxes place) (stages_at place (slice_get schedule.standings place)
      (slice_get pipeline.funcs place) (slice_get boxes.funcs place)) k stage found) [
        | inl earlier ↦ listed_below place k stage earlier
        | inr here ↦ listed_at place here.0 stage (slice_get schedule.standings place) (slice_get pipeline.funcs place) (slice_get boxes.funcs place) refl refl
            refl
            here.1
      ]

  pub planned : IsAccepted pipeline schedule → inferred pipeline schedule ≡ Ok boxes → (stage : StagePosition) (listed : IsListed stage)
      → (plan : FuncPlan) × IsAtRoot pipeline schedule boxes stage.func listed.func plan listed.own
  planned accepted is stage listed =
      let box = has_box pipeline schedule boxes accepted is stage.func listed.own listed.box_is in
      let plan = pair_there IsPlan pipeline.funcs schedule.funcs stage.func listed.func accepted.plans listed.func_is in
      let same : box.standing ≡ listed.standing = let p = box.there.standing in let q = listed.standing_is in cc in (
        plan.value,
        record {
          func_is = listed.func_is;
          plan_is = plan.is;
          box_is = listed.box_is;
          standing = box.standing;
          there = box.there;
          placed_is =
              ap (λ (t : FuncPlacement). t.place) same ∙ listed.at_root;
        },
      )

  module _ (rules : IsWellFormed pipeline) (accepted : IsAccepted pipeline schedule) (is : inferred pipeline schedule ≡ Ok boxes) (stage : StagePosition)
      (listed : IsListed stage)
      (plan : FuncPlan) (at : IsAtRoot pipeline schedule boxes stage.func listed.func plan listed.own) where
    abbrev extents : Extents
    extents = extents_of listed.own

    wide : 1 ≤ extent listed.own.x
    wide = let b = is_box pipeline schedule boxes stage.func listed.func plan listed.own accepted is places.Root tt at in omega (arith, b.x.ordered)

    high : 1 ≤ extent listed.own.y
    high = let b = is_box pipeline schedule boxes stage.func listed.func plan listed.own accepted is places.Root tt at in omega (arith, b.y.ordered)

    -- ---- a pure definition

    stage_facts : IsStageOf listed.func None plan.pure × KeepsRules plan.pure
    stage_facts = staged pipeline schedule boxes stage.func listed.func plan listed.own accepted is places.Root tt at

    slice_of : (x y : ℕ) → x < extent listed.own.x → y < extent listed.own.y → is_slice_of listed.func None extents x y ≡ true
    slice_of x y lx ly =
        covered.slice_there pipeline schedule boxes rules accepted is places.Root stage.func listed.func plan listed.own tt at x y
        (covered.point_there pipeline schedule boxes rules accepted is places.Root stage.func listed.func plan listed.own tt at x y lx ly)

    record IsOwned (x y : ℕ) : Type 0 where
      owner : ℕ
      below : owner < iteration_count extents plan.pure
      owned : owns extents plan.pure owner x y ≡ true

    owned_by : (x y : ℕ) → x < extent listed.own.x → y < extent listed.own.y → IsOwned x y
    owned_by x y lx ly = by_test (owns extents plan.pure h.owner x y) refl
      where
        h : HasOwner (iteration_count extents plan.pure) (visits_in extents plan.pure) x y
        h = slice_owner listed.func None extents plan.pure stage_facts.0 stage_facts.1 x y (slice_of x y lx ly)

        none : owns extents plan.pure h.owner x y ≡ false → (number : ℕ) → number < iteration_count extents plan.pure
            → owns extents plan.pure number x y ≡ false
        none e number l = elim (cases_eq number h.owner) [
          | inl same ↦ ap (λ (n : ℕ). owns extents plan.pure n x y) same ∙ e
          | inr other ↦ none_kept (is_slice x y) (visits_in extents plan.pure number) (h.no_other number l other)
        ]

        by_test : (test : Bool) → owns extents plan.pure h.owner x y ≡ test → IsOwned x y
        by_test true e = record { owner = h.owner; below = h.is_iteration; owned = e }
        by_test false e =
            absurd (some_owner listed.func extents plan.pure stage_facts.0 stage_facts.1 stage.func
            (fits pipeline schedule boxes stage.func listed.func plan listed.own accepted is places.Root tt at) x y (slice_of x y lx ly) (none e))

    -- ---- an update, over a box that isn't empty

    module _ (number : ℕ) (update : Update) (own_stage : Stage) (it : IsUpdateAt schedule stage.func listed.func plan number update own_stage) where
      abbrev reduced : Extents
      reduced = update_extents listed.own update

      facts : IsStageOf listed.func (Some update) own_stage × KeepsRules own_stage
      facts = updates.staged pipeline schedule accepted stage.func listed.func plan at.standing listed.func_is at.there number update own_stage it

      some : (has : Bool) (extent : ℕ) → 1 ≤ extent → nat_lt 0 (cond has extent 1) ≡ true
      some true extent l = lt-ltb 0 extent l
      some false extent l = refl

      first_slice : is_slice_of listed.func (Some update) reduced 0 0 ≡ true
      first_slice =
          and_from (nat_lt 0 (extent_in listed.func (Some update) reduced variables.FirstArgument)) (nat_lt 0 (extent_in listed.func (Some update) reduced
          variables.SecondArgument))
          (some (has_variable variables.FirstArgument (first_loops listed.func (Some update))) (extent listed.own.x) wide)
          (some (has_variable variables.SecondArgument (first_loops listed.func (Some update))) (extent listed.own.y) high)

      some_points : 1 ≤ points_of listed.func (Some update) reduced
      some_points =
          let box_rule = ((rules.funcs stage.func listed.func listed.func_is).updates number update it.update_is).box in
          let all : 1 * 1 ≤ update.first.extent * second_extent update.second = mul-le-mul (first_extent update box_rule).0 (second_few update box_rule).0 in
          omega (arith, all, points_are listed.func update listed.own)

      seen : (n : ℕ) → 1 ≤ n → slice 0 0 (visits reduced own_stage) ≡ rising 0 0 0 n → visits reduced own_stage ≡ [] → ⊥
      seen zero l is none = absurd (omega (arith, l))
      seen (suc n) l is none = let wrong : [] ≡ rising 0 0 0 (suc n) = ap (slice 0 0) (sym none) ∙ is in absurd cc

      some_iteration : 0 < iteration_count reduced own_stage
      unfolding upto
      some_iteration = elim (cases_lt 0 (iteration_count reduced own_stage)) [
        | inl l ↦ l
        | inr l ↦
            let none : iteration_count reduced own_stage ≡ 0 = omega (arith, l) in
            absurd (seen (points_of listed.func (Some update) reduced) some_points
            (slice_is listed.func update reduced own_stage facts.0 0 0 (is_slice_of listed.func (Some update) reduced 0 0) refl
            ∙ ap (λ (there : Bool). rising 0 0 0 (cond there (points_of listed.func (Some update) reduced) 0)) first_slice)
            (all_iterations listed.func (Some update) reduced own_stage facts.0 facts.1 ∙ ap (λ (n : ℕ). upto n (visits_in reduced own_stage)) none))
      ]

    -- ---- how many iterations there are

    are_of : (number : ℕ) → iterations_in pipeline schedule boxes (slice_get pipeline.funcs stage.func) (slice_get schedule.funcs stage.func)
        (slice_get boxes.funcs stage.func) number
        ≡ iterations_of pipeline schedule boxes listed.func plan listed.own number
    are_of number = rw (listed.func_is, at.plan_is, listed.box_is) refl

    counted : (number : ℕ) → stage.number ≡ number → 0 < iterations_of pipeline schedule boxes listed.func plan listed.own number
    counted zero e = let first = owned_by 0 0 wide high in omega (arith, first.below)
    counted (suc number) e =
        let update = some_at listed.func.updates number (omega (arith, e, listed.few)) in
        let made = pair_there (IsUpdateStage listed.func) listed.func.updates plan.updates number update.value (pair_at IsPlan pipeline.funcs schedule.funcs
        stage.func listed.func plan accepted.plans listed.func_is at.plan_is).updates update.is in
        let it : IsUpdateAt schedule stage.func listed.func plan number update.value made.value = record {
          plan_is = at.plan_is;
          update_is =
              update.is;
          stage_is = made.is;
        } in
        rw (update.is, made.is) (some_iteration number update.value made.value it)

    pub some_iterations : 0 < iterations pipeline schedule boxes stage
    some_iterations = subst (λ (n : ℕ). 0 < n) (sym (are_of stage.number)) (counted stage.number refl)

    pub pure_written : (inputs : Planes) → stage.number ≡ 0 → (x y : ℕ) → x < extent listed.own.x → y < extent listed.own.y
        → IsWritten pipeline schedule boxes inputs stage x y
    pure_written inputs pure x y lx ly =
        let found = owned_by x y lx ly in
        record {
          iteration = found.owner;
          is_iteration = subst (λ (n : ℕ). found.owner < n) (sym (are_of stage.number ∙ ap (iterations_of pipeline schedule boxes listed.func plan listed.own)
              pure)) found.below;
          writes_it =
              ap (λ (n : ℕ). writes_in pipeline schedule boxes inputs stage.func (slice_get pipeline.funcs stage.func) (slice_get schedule.funcs stage.func)
              (slice_get boxes.funcs stage.func) n found.owner x y) pure
              ∙ rw (listed.func_is, at.plan_is, listed.box_is) found.owned;
        }

pub stages-have-iterations : StagesHaveIterations
stages-have-iterations pipeline schedule boxes rules accepted is phase stage found =
    let listed = listed_below pipeline schedule boxes (length pipeline.funcs) phase stage found in
    let plan = planned pipeline schedule boxes accepted is stage listed in
    some_iterations pipeline schedule boxes rules accepted is stage listed plan.0 plan.1

pub pure-stages-write-all : PureStagesWriteAll
pure-stages-write-all pipeline schedule boxes rules accepted is inputs phase stage found pure own box_is x y lx ly =
    let listed = listed_below pipeline schedule boxes (length pipeline.funcs) phase stage found in
    let plan = planned pipeline schedule boxes accepted is stage listed in
    let same : listed.own ≡ own = let a = listed.box_is in cc in
    pure_written pipeline schedule boxes rules accepted is stage listed plan.0 plan.1 inputs pure x y
    (subst (λ (b : SourceBox). x < extent b.x) (sym same) lx) (subst (λ (b : SourceBox). y < extent b.y) (sym same) ly)

-- ---- which stages they are

same_where : (at : ComputeLevel) (reached : Bool) (place : ℕ) (func : Func) (own : Option SourceBox) → is_some own ≡ (reached && not (is_inlined at))
    → stages_where at func own place ≡ cond (reached && is_root at) (stages_to place (suc (length func.updates))) []
same_where places.Root true place func None e = absurd (true≢false (sym e))
same_where places.Root true place func (Some own) e = refl
same_where places.Root false place func None e = refl
same_where places.Root false place func (Some own) e = absurd (true≢false e)
same_where other true place func own e = refl
same_where other false place func own e = refl

same_at : (place : ℕ) (standing : Option FuncPlacement) (func : Option Func) (own : Option (Option SourceBox)) → is_some (box_in own) ≡ is_computed_there standing
    → stages_at place standing func own ≡ reached_at place standing func
same_at place None func own e = refl
same_at place (Some standing) None own e = refl
same_at place (Some standing) (Some func) None e = nothing standing.place standing.is_reached e
  where
    nothing : (at : ComputeLevel) (reached : Bool) → false ≡ (reached && not (is_inlined at))
        → [] ≡ cond (reached && is_root at) (stages_to place (suc (length func.updates))) []
    nothing places.Root true e = absurd (true≢false (sym e))
    nothing places.Root false e = refl
    nothing other true e = refl
    nothing other false e = refl
same_at place (Some standing) (Some func) (Some own) e = same_where standing.place standing.is_reached place func own e

same_below : (pipeline : Pipeline) (schedule : Schedule) (boxes : Boxes)
    → ((place : ℕ) → is_some (box_in (slice_get boxes.funcs place)) ≡ is_computed_there (slice_get schedule.standings place))
    → (count : ℕ) → stages_below pipeline schedule boxes count ≡ reached_below pipeline schedule count
same_below pipeline schedule boxes are zero = refl
same_below pipeline schedule boxes are (suc place) =
    ap (λ (l : List StagePosition). l ++ stages_at place (slice_get schedule.standings place) (slice_get pipeline.funcs place) (slice_get boxes.funcs place))
    (same_below pipeline schedule boxes are place)
    ∙ ap (λ (l : List StagePosition). reached_below pipeline schedule place ++ l) (same_at place (slice_get schedule.standings place) (slice_get pipeline.funcs
    place) (slice_get boxes.funcs place) (are place))

pub stages-are-reached : StagesAreReached
stages-are-reached pipeline schedule boxes accepted is = same_below pipeline schedule boxes (boxes_are_of_reached_funcs pipeline schedule boxes accepted is)
    (length pipeline.funcs)
