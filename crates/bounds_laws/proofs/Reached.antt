-- There is a box for a Func exactly where the output reaches it and it isn't inlined.
use Rattle.std.proofs.Common.{◌≡◌, ℕ, zero, suc, ◌+◌, ◌-◌, ◌<◌, ◌≤◌, Bool, true, false, not, cond, List, [], ◌∷◌, length, Option, Some, None, refl, sym, ap}
use Rattle.std.proofs.Common.{◌∙◌, subst, arith, inl, inr, true≢false}
use Rattle.std.specs.Prelude.{◌==◌, ◌&&◌, ◌||◌, slice_get, Ok, is_some}
use Rattle.std.proofs.lemmas.Bool.{and_parts, and_from, or_cases, cases_Bool, cases_eq, eq-eqb, eqb-true, not-true, not_from_false}
use Rattle.std.proofs.lemmas.Option.{slice_get_within}
use Rattle.halide_pipeline.specs.declared.definitions.Func.{Func}
use Rattle.halide_pipeline.specs.declared.definitions.Update.{Update}
use Rattle.halide_pipeline.specs.declared.expressions.Source.TheVariants as sources
use Rattle.halide_pipeline.specs.Pipelines.{Pipeline}
use Rattle.schedule.specs.declared.plans.FuncPlan.{FuncPlan}
use Rattle.schedule.specs.declared.schedules.Schedule.{Schedule}
use Rattle.schedule.specs.declared.placements.ComputeLevel.{ComputeLevel}
use Rattle.schedule.specs.declared.placements.ComputeLevel.TheVariants as places
use Rattle.schedule.specs.declared.placements.FuncPlacement.{FuncPlacement}
use Rattle.schedule.specs.Accepted.{IsAccepted, IsProduced, IsLegal, IsPlan, IsComputed as Legal}
use Rattle.schedule.specs.Placements.{calls, updates_call, func_calls, place_calls, place_calls_of, is_read, standings_from}
use Rattle.schedule.specs.Legal.{is_root, is_inlined, is_nowhere}
use Rattle.schedule.specs.Placements as standing
use Rattle.schedule.specs.Uses.{IsReached}
use Rattle.schedule.proofs.Uses.{IsSome, numbered_at, output_standing}
use Rattle.schedule_loops.proofs.AcceptedStages.{pair_at}
use Rattle.bounds_weights.specs.Weight.{flags_of}
use Rattle.bounds.specs.declared.boxes.ConsumerLoop.{ConsumerLoop}
use Rattle.bounds.specs.declared.boxes.SourceBox.{SourceBox}
use Rattle.bounds.specs.declared.boxes.Spread.{Spread}
use Rattle.bounds.specs.declared.layout.Layout.{Layout}
use Rattle.bounds.specs.declared.verdict.Boxes.{Boxes}
use Rattle.bounds.specs.Inference.{func_asked, wanted, own_updates, read_from, func_box, with_func, boxes_from}
use Rattle.bounds.specs.Boxes.{lasts_of}
use Rattle.bounds.specs.Extents.{box_in}
use Rattle.bounds.specs.Layout.{laid_in, phases, phases_of}
use Rattle.bounds.specs.Verdict.{inferred}
use Rattle.bounds_laws.specs.Laws.{IsComputed, consumer_in}
use Rattle.bounds_laws.specs.Reached.{is_computed_there, reached_stages, BoxesAreOfReachedFuncs, PhasesAreReachedStages}
use Rattle.bounds_laws.proofs.Asking.{asks, Leads, IsPutIn, expression_asks, func_asks}
use Rattle.bounds_laws.proofs.BoxFacts.{has_box}
use Rattle.bounds_laws.proofs.Full.{IsFull, full_box, wanted_full, updates_full, from_full, from_asked}
use Rattle.bounds_laws.proofs.Found.{are_found, in_front_is, got}
use Rattle.bounds_laws.proofs.FoundFuncs.{boxes_at, sought_is}
use Rattle.bounds_laws.proofs.PutIn.{pair_length, put_simple}
use Rattle.bounds_laws.proofs.StandingWithin.{flag_is}

-- ---- lists of one length

same_length : {A B : Type 0} (xs : List A) (ys : List B) (k : ℕ) (x : A) → length xs ≡ length ys → slice_get xs k ≡ Some x → IsSome (slice_get ys k)
same_length [] ys k x e found = absurd cc
same_length (a ∷ xs) [] k x e found = absurd (omega (arith, e))
same_length (a ∷ xs) (b ∷ ys) zero x e found = record { value = b; is = refl }
same_length (a ∷ xs) (b ∷ ys) (suc k) x e found = same_length xs ys k x (omega (arith, e)) found

module _ (pipeline : Pipeline) (schedule : Schedule) (flags : List Bool) where
  count_step : (at : ℕ) (func : Func) (others : List Func) (rest : Option (List (Option SourceBox))) (later_boxes : List (Option SourceBox))
      → ((behind : List (Option SourceBox)) → rest ≡ Some behind → length behind ≡ length others) → with_func pipeline schedule flags at func rest ≡ Some later_boxes
      → length later_boxes ≡ suc (length others)
  count_step at func others None later_boxes next e = absurd cc
  count_step at func others (Some behind) later_boxes next e =
      sym (ap length (in_front_is (func_box pipeline schedule flags at func behind (slice_get schedule.standings at)) behind later_boxes e))
      ∙ ap suc (next behind refl)

  -- there are as many boxes as Funcs
  boxes_count : (at : ℕ) (funcs : List Func) (later_boxes : List (Option SourceBox)) → boxes_from pipeline schedule flags at funcs ≡ Some later_boxes
      → length later_boxes ≡ length funcs
  boxes_count at [] later_boxes e = sym (ap length (got [] later_boxes e))
  boxes_count at (func ∷ others) later_boxes e =
      count_step at func others (boxes_from pipeline schedule flags (at + 1) others) later_boxes (λ behind is. boxes_count (at + 1) others behind is) e

-- ---- a reached Func that isn't the output is called by a later one that is reached

record IsCalledIn (pipeline : Pipeline) (func at : ℕ) (rest : List FuncPlacement) : Type 0 where
  place : ℕ
  its : FuncPlacement
  found : slice_get rest place ≡ Some its
  reached : its.is_reached ≡ true
  called : place_calls pipeline (at + place) func ≡ true

module _ (pipeline : Pipeline) where
  abbrev next_called : (func at : ℕ) (first : FuncPlacement) (others : List FuncPlacement) → IsCalledIn pipeline func (at + 1) others
      → IsCalledIn pipeline func at (first ∷ others)
  next_called func at first others c = record {
    place = suc c.place;
    its = c.its;
    found = c.found;
    reached = c.reached;
    called = subst (λ (n : ℕ). place_calls pipeline n func ≡ true) (omega arith) c.called;
  }

  called_in : (func at : ℕ) (rest : List FuncPlacement) → is_read pipeline func at rest ≡ true → IsCalledIn pipeline func at rest
  called_in func at [] e = absurd cc
  called_in func at (first ∷ others) e = elim (or_cases (first.is_reached && place_calls pipeline at func) (is_read pipeline func (at + 1) others) e) [
    | inl l ↦
        let parts = and_parts first.is_reached (place_calls pipeline at func) l in
        record { place = 0; its = first; found = refl; reached = parts.0; called = subst (λ (n : ℕ). place_calls pipeline n func ≡ true) (omega arith) parts.1 }
    | inr r ↦ next_called func at first others (called_in func (at + 1) others r)
  ]

  called_later : (plans : List FuncPlan) (at : ℕ) (rest : List FuncPlan) (k func : ℕ) → at + k ≡ func → (placement : FuncPlacement)
      → slice_get (standings_from pipeline plans at rest) k ≡ Some placement
      → placement.is_reached ≡ true → (func ≡ pipeline.output.func → ⊥) → (c : IsCalledIn pipeline func at (standings_from pipeline plans at rest)) × (k < c.place)
  called_later plans at [] k func place placement found reached other = absurd cc
  called_later plans at (first ∷ others) (suc k) func place placement found reached other =
      let c = called_later plans (at + 1) others k func (omega (arith, place)) placement found reached other in
      (next_called func at _ (standings_from pipeline plans (at + 1) others) c.0, omega (arith, c.1))
  called_later plans at (first ∷ others) zero func place placement found reached other =
      let behind = standings_from pipeline plans (at + 1) others in
      let raised : standing.is_reached pipeline at behind ≡ true = ap (λ (s : FuncPlacement). s.is_reached) (got (standing.standing pipeline plans at first behind)
      placement found) ∙ reached in
      elim (or_cases (at == pipeline.output.func) (is_read pipeline at (at + 1) behind) raised) [
        | inl l ↦ absurd (other (omega (arith, place, eqb-true at pipeline.output.func l)))
        | inr r ↦ (
          next_called func at _ behind (called_in func (at + 1) behind (subst (λ (n : ℕ). is_read pipeline n (at + 1) behind ≡ true)
              (omega (arith, place)) r)),
          omega arith,
        )
      ]

-- ---- boxes

module _ (pipeline : Pipeline) (schedule : Schedule) (boxes : Boxes) (accepted : IsAccepted pipeline schedule) (is : inferred pipeline schedule ≡ Ok boxes)
  where
    abbrev flags : List Bool
    flags = flags_of schedule.standings

    standings_are : schedule.standings ≡ standings_from pipeline schedule.funcs 0 schedule.funcs
    unfolding standing.standings
    standings_are = accepted.standings

    boxes_are_many : length boxes.funcs ≡ length pipeline.funcs
    boxes_are_many = boxes_count pipeline schedule flags 0 pipeline.funcs boxes.funcs (are_found pipeline schedule boxes is).funcs

    funcs_are_many : length pipeline.funcs ≡ length schedule.standings
    funcs_are_many = pair_length IsPlan pipeline.funcs schedule.funcs accepted.plans ∙ pair_length IsLegal schedule.funcs schedule.standings accepted.legal

    placed_so : (func_index : ℕ) (own : FuncPlacement) → IsReached schedule.standings func_index own → is_inlined own.place ≡ false → IsComputed func_index own.place
    placed_so func_index own there plain = by_place own.place refl plain legal.somewhere
      where
        plan : IsSome (slice_get schedule.funcs func_index)
        plan = same_length schedule.standings schedule.funcs func_index own (sym (pair_length IsLegal schedule.funcs schedule.standings accepted.legal))
            there.standing

        legal : Legal plan.value own
        legal = pair_at IsLegal schedule.funcs schedule.standings func_index plan.value own accepted.legal plan.is there.standing there.reached

        produced : IsProduced pipeline schedule.funcs func_index own
        produced = subst (λ (n : ℕ). IsProduced pipeline schedule.funcs n own) (omega arith) (numbered_at (IsProduced pipeline schedule.funcs) 0
            schedule.standings accepted.consumers func_index own there.standing)

        by_place : (p : ComputeLevel) → own.place ≡ p → is_inlined p ≡ false → is_nowhere p ≡ false
            → IsComputed func_index p
        by_place places.Root e not_inlined somewhere = tt
        by_place (places.At consumer) e not_inlined somewhere = (produced consumer e).later
        by_place places.Inlined e not_inlined somewhere = absurd cc
        by_place places.Nowhere e not_inlined somewhere = absurd cc

    -- a reached Func that isn't the output has a caller that is reached
    record HasCaller (func : ℕ) : Type 0 where
      reader : ℕ
      later : func < reader
      its : FuncPlacement
      there : IsReached schedule.standings reader its
      own : Func
      own_is : slice_get pipeline.funcs reader ≡ Some own
      calls : func_calls func own ≡ true

    has_caller : (func : ℕ) (own : FuncPlacement) → IsReached schedule.standings func own → (func ≡ pipeline.output.func → ⊥) → HasCaller func
    unfolding place_calls
    has_caller func own there other =
        let standing_is = sym (ap (λ (l : List FuncPlacement). slice_get l func) standings_are) ∙ there.standing in
        let called = called_later pipeline schedule.funcs 0 schedule.funcs func func (omega arith) own standing_is there.reached other in
        let c = called.0 in
        let source_box : slice_get schedule.standings c.place ≡ Some c.its = ap (λ (l : List FuncPlacement). slice_get l c.place) standings_are ∙ c.found in
        let f = same_length schedule.standings pipeline.funcs c.place c.its (sym funcs_are_many) source_box in
        let here : 0 + c.place ≡ c.place = omega arith in
        record {
          reader = c.place;
          later = called.1;
          its = c.its;
          there = record { standing = source_box; reached = c.reached };
          own = f.value;
          own_is = f.is;
          calls = sym (ap (place_calls_of func) f.is) ∙ subst (λ (n : ℕ). place_calls pipeline n func ≡ true) here c.called;
        }

    -- a Func that is computed asks for it, maybe through inlined ones
    record IsAsked (sought : ℕ) : Type 0 where
      reader : ℕ
      later : sought < reader
      its : FuncPlacement
      there : IsReached schedule.standings reader its
      plain : is_inlined its.place ≡ false
      own : Func
      own_is : slice_get pipeline.funcs reader ≡ Some own
      asking : (view : SourceBox) → asks sought (func_asked pipeline.inputs pipeline.funcs flags reader view own) ≡ true

    module _ (sought : ℕ) where
      abbrev LeadsThere : ℕ → Type 0
      LeadsThere func = Leads sought pipeline.inputs pipeline.funcs flags func

      -- a caller that is inlined has no updates
      put_in : (func : ℕ) → LeadsThere func → (c : HasCaller func) → is_inlined c.its.place ≡ true
          → IsPutIn sought pipeline.inputs pipeline.funcs flags c.reader
      unfolding func_calls
      put_in func leads c flag = record {
        own = c.own;
        own_is = c.own_is;
        flag = flag_is schedule.standings c.reader c.its c.there.standing ∙ flag;
        asked = λ lasts vars. expression_asks sought pipeline.inputs pipeline.funcs flags func c.reader c.later leads lasts vars c.own.pure
            (pure c.own.updates no_updates c.calls);
      }
        where
          no_updates : length c.own.updates ≡ 0
          no_updates = put_simple pipeline schedule accepted c.reader c.own c.own_is (rw c.there.standing (and_from c.its.is_reached (is_inlined c.its.place)
              c.there.reached flag))

          pure : (updates : List Update) → length updates ≡ 0 → (calls func c.own.pure || updates_call func updates) ≡ true → calls func c.own.pure ≡ true
          pure [] e called = elim (or_cases (calls func c.own.pure) false called) [
            | inl l ↦ l
            | inr r ↦ absurd cc
          ]
          pure (update ∷ others) e called = absurd (omega (arith, e))

      not_output : (reader : ℕ) (its : FuncPlacement) → IsReached schedule.standings reader its → is_inlined its.place ≡ true → reader ≡ pipeline.output.func → ⊥
      not_output reader its there flag e =
          let root = output_standing pipeline schedule.funcs its (sym (ap (λ (n : ℕ). slice_get (standings_from pipeline schedule.funcs 0 schedule.funcs) n) e)
          ∙ sym (ap (λ (l : List FuncPlacement). slice_get l reader) standings_are) ∙ there.standing) in
          true≢false (sym flag ∙ ap is_inlined root.1)

      is_asked : (fuel func : ℕ) → length schedule.standings ≤ func + fuel → sought ≤ func → (own : FuncPlacement) → IsReached schedule.standings func own
          → (func ≡ pipeline.output.func → ⊥)
          → LeadsThere func → IsAsked sought
      is_asked zero func le after own there other leads = absurd (omega (arith, le, slice_get_within schedule.standings func own there.standing))
      is_asked (suc fuel) func le after own there other leads =
          let c = has_caller func own there other in
          elim (cases_Bool (is_inlined c.its.place)) [
            | inl flag ↦
                is_asked fuel c.reader (omega (arith, le, c.later)) (omega (arith, after, c.later)) c.its c.there (not_output c.reader c.its c.there flag)
                (inr (put_in func leads c flag))
            | inr flag ↦ record {
              reader = c.reader;
              later = omega (arith, after, c.later);
              its = c.its;
              there = c.there;
              plain = flag;
              own = c.own;
              own_is = c.own_is;
              asking = λ view. func_asks sought pipeline.inputs pipeline.funcs flags func c.reader c.later leads view c.own c.calls;
            }
          ]

    abbrev IsBoxed : ℕ → Type 0
    IsBoxed func_index = (own : SourceBox) × (slice_get boxes.funcs func_index ≡ Some (Some own))

    module _ (func_index : ℕ) (own : FuncPlacement) (there : IsReached schedule.standings func_index own) (plain : is_inlined own.place ≡ false)
        (behind : (reader : ℕ) (its : FuncPlacement) → func_index < reader → IsReached schedule.standings reader its → is_inlined its.place ≡ false
        → IsBoxed reader) where
      consumer : Option ConsumerLoop
      consumer = consumer_in schedule boxes.funcs own.place

      full : (func : Func) (others : List (Option SourceBox)) → ((n : ℕ) → slice_get others n ≡ slice_get boxes.funcs (func_index + 1 + n))
          → IsFull (read_from pipeline schedule flags (func_index + 1) consumer (sources.Func func_index) others (own_updates pipeline flags func_index consumer
          (wanted pipeline.output func_index consumer) func.updates))
      full func others later = elim (cases_eq func_index pipeline.output.func) [
        | inl e ↦
            from_full consumer pipeline flags schedule (func_index + 1) (sources.Func func_index) others start
            (updates_full consumer pipeline flags func_index (wanted pipeline.output func_index consumer) func.updates
            (wanted_full pipeline.output consumer (func_index == pipeline.output.func) (eq-eqb func_index pipeline.output.func e)))
        | inr e ↦
            let a = is_asked func_index (length schedule.standings) func_index (omega arith) (omega arith) own there e
            (inl (refl, flag_is schedule.standings func_index own there.standing ∙ plain)) in
            let b = behind a.reader a.its a.later a.there a.plain in
            from_asked consumer pipeline flags schedule func_index a.reader a.own a.own_is a.asking b.0 (func_index + 1) (a.reader - (func_index + 1)) (omega (arith, a.later))
            others
            (later (a.reader - (func_index + 1)) ∙ ap (λ (n : ℕ). slice_get boxes.funcs n) (omega (arith, a.later)) ∙ b.1) start
      ]
        where
          start : Spread
          start = own_updates pipeline flags func_index consumer (wanted pipeline.output func_index consumer)
              func.updates

      is_boxed : IsBoxed func_index
      unfolding consumer
      is_boxed =
          let box = same_length schedule.standings boxes.funcs func_index own (sym (boxes_are_many ∙ funcs_are_many)) there.standing in
          let at = boxes_at pipeline schedule flags 0 pipeline.funcs boxes.funcs (are_found pipeline schedule boxes is).funcs func_index box.value box.is in
          let spread = read_from pipeline schedule flags (func_index + 1) consumer (sources.Func func_index) at.behind (own_updates pipeline flags func_index consumer
          (wanted pipeline.output func_index consumer) at.func.updates) in
          let f = full at.func at.behind at.later in
          by_box box.value box.is
          (ap is_some (at.own_is
          ∙ ap (λ (n : ℕ). func_box pipeline schedule flags n at.func at.behind (slice_get schedule.standings n)) (omega arith)
          ∙ sought_is pipeline schedule flags boxes.funcs func_index at.func at.behind at.later own there.standing there.reached (placed_so func_index own there plain))
          ∙ full_box (lasts_of consumer) spread.x spread.y f.0 f.1)
        where
          by_box : (source_box : Option SourceBox) → slice_get boxes.funcs func_index ≡ Some source_box → is_some source_box ≡ true → IsBoxed func_index
          by_box None e some = absurd cc
          by_box (Some other) e some = (other, e)

    boxed : (fuel func_index : ℕ) → length schedule.standings ≤ func_index + fuel → (own : FuncPlacement) → IsReached schedule.standings func_index own
        → is_inlined own.place ≡ false
        → IsBoxed func_index
    boxed zero func_index le own there plain = absurd (omega (arith, le, slice_get_within schedule.standings func_index own there.standing))
    boxed (suc fuel) func_index le own there plain =
        is_boxed func_index own there plain (λ reader its later its_there its_plain. boxed fuel reader (omega (arith, le, later)) its its_there its_plain)

-- ---- the laws

same_tests : (a b : Bool) → (a ≡ true → b ≡ true) → (b ≡ true → a ≡ true) → a ≡ b
same_tests true b f g = sym (f refl)
same_tests false true f g = g refl
same_tests false false f g = refl

pub boxes_are_of_reached_funcs : BoxesAreOfReachedFuncs
boxes_are_of_reached_funcs pipeline schedule boxes accepted is place =
    same_tests (is_some (box_in (slice_get boxes.funcs place))) (is_computed_there (slice_get schedule.standings place))
    (by_box (slice_get boxes.funcs place) refl) (by_standing (slice_get schedule.standings place) refl)
  where
    not_inlined : (p : ComputeLevel) → IsComputed place p → is_inlined p ≡ false
    not_inlined places.Root computed = refl
    not_inlined (places.At consumer) computed = refl
    not_inlined places.Inlined computed = absurd computed
    not_inlined places.Nowhere computed = absurd computed

    by_box : (found : Option (Option SourceBox)) → slice_get boxes.funcs place ≡ found → is_some (box_in found) ≡ true
        → is_computed_there (slice_get schedule.standings place) ≡ true
    by_box None e some = absurd cc
    by_box (Some None) e some = absurd cc
    by_box (Some (Some own)) e some =
        let h = has_box pipeline schedule boxes accepted is place own e in
        ap is_computed_there h.there.standing
        ∙ and_from h.standing.is_reached (not (is_inlined h.standing.place)) h.there.reached (not_from_false (is_inlined h.standing.place)
        (not_inlined h.standing.place h.computed))

    by_standing : (found : Option FuncPlacement) → slice_get schedule.standings place ≡ found → is_computed_there found ≡ true
        → is_some (box_in (slice_get boxes.funcs place)) ≡ true
    by_standing None e computed = absurd cc
    by_standing (Some own) e computed =
        let k = and_parts own.is_reached (not (is_inlined own.place)) computed in
        ap (λ (b : Option (Option SourceBox)). is_some (box_in b))
        (boxed pipeline schedule boxes accepted is (length schedule.standings) place (omega arith) own (record { standing = e; reached = k.0 })
        (not-true (is_inlined own.place) k.1)).1

-- ---- phases

phases_at : (level : ComputeLevel) (reached : Bool) (func : Func) (source_box : Option SourceBox) → is_some source_box ≡ (reached && not (is_inlined level))
    → phases_of level func source_box ≡ cond (reached && is_root level) (length func.updates + 1) 0
phases_at places.Root true func None e = absurd cc
phases_at places.Root true func (Some source_box) e = refl
phases_at places.Root false func None e = refl
phases_at places.Root false func (Some source_box) e = absurd cc
phases_at other true func source_box e = refl
phases_at other false func source_box e = refl

phases_are : (standings : List FuncPlacement) (funcs : List Func) (boxes : List (Option SourceBox)) → length boxes ≡ length funcs
    → ((func_index : ℕ) → is_some (box_in (slice_get boxes func_index)) ≡ is_computed_there
    (slice_get standings func_index))
    → phases standings funcs boxes ≡ reached_stages standings funcs
phases_are [] funcs boxes many are = refl
phases_are (own ∷ standings) [] boxes many are = refl
phases_are (own ∷ standings) (func ∷ funcs) [] many are = absurd (omega (arith, many))
phases_are (own ∷ standings) (func ∷ funcs) (box ∷ boxes) many are =
    let first = phases_at own.place own.is_reached func box (are 0) in
    let others = phases_are standings funcs boxes (omega (arith, many)) (λ func_index. are (suc func_index)) in
    cc

pub phases_are_reached_stages : PhasesAreReachedStages
unfolding laid_in
phases_are_reached_stages pipeline schedule boxes accepted is =
    let found = are_found pipeline schedule boxes is in
    ap (λ (l : Layout). l.phases) found.layout
    ∙ phases_are schedule.standings pipeline.funcs boxes.funcs (boxes_count pipeline schedule (flags_of schedule.standings) 0 pipeline.funcs boxes.funcs
    found.funcs)
    (boxes_are_of_reached_funcs pipeline schedule boxes accepted is)
