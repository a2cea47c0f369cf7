-- Boxes hold all that the output's pixels read, all that those read, and so on.
use Rattle.std.proofs.Common.{◌≡◌, ℕ, zero, suc, ◌+◌, ◌^◌, ◌<◌, Bool, true, false, cond, not, List, [], ◌∷◌, length, Option, None, Some, refl, sym, ap, subst}
use Rattle.std.proofs.Common.{◌∙◌, arith, inl, inr, true≢false}
use Rattle.std.specs.Prelude.{◌==◌, ◌&&◌, ◌||◌, nat_lt, slice_get, is_some, Ok}
use Rattle.std.proofs.lemmas.Bool.{and_parts, and_from, lt-ltb, ltb-true, eq-eqb, ne_eqb, cases_lt}
use Rattle.std.proofs.lemmas.Option.{slice_get_past}
use Rattle.halide_pipeline.specs.declared.definitions.Func.{Func}
use Rattle.halide_pipeline.specs.declared.definitions.Input.{Input}
use Rattle.halide_pipeline.specs.declared.definitions.Update.{Update}
use Rattle.halide_pipeline.specs.declared.expressions.Expr.{Expr}
use Rattle.halide_pipeline.specs.declared.expressions.Source.{Source}
use Rattle.halide_pipeline.specs.declared.expressions.Source.TheVariants as sources
use Rattle.halide_pipeline.specs.declared.expressions.Variable.{Variable}
use Rattle.halide_pipeline.specs.WellFormed.{dimensions, is_first_in_place, is_second_in_place, keeps, keeps_index, is_read, is_func_of, is_argument}
use Rattle.halide_pipeline.specs.WellFormed.{is_update_variable, IsWellFormed, IsUpdate}
use Rattle.halide_pipeline.specs.Pipelines.{Pipeline}
use Rattle.halide_pipeline.specs.declared.environments.Environment.{Environment}
use Rattle.halide_pipeline.specs.Pixel.{Planes, Reads, reads_of, with_plane, pixels, stage, after, at_point, at_reduction, points}
use Rattle.halide_pipeline.specs.Points.{Point, Hold, points_read, index_points, left_points, direct_trace, ReadsHold, pixel_trace}
use Rattle.halide_pipeline.proofs.Holding.{definitions_hold_reads}
use Rattle.halide_pipeline.proofs.Tracing.{closed_points_hold_reads}
use Rattle.halide_pipeline.proofs.Seeing.{all_both, all_parts}
use Rattle.schedule.specs.declared.schedules.Schedule.{Schedule}
use Rattle.schedule.specs.declared.placements.ComputeLevel.{ComputeLevel}
use Rattle.schedule.specs.declared.placements.ComputeLevel.TheVariants as places
use Rattle.schedule.specs.declared.placements.FuncPlacement.{FuncPlacement}
use Rattle.schedule.specs.Accepted.{IsAccepted, IsPlan, IsLegal, IsProduced}
use Rattle.schedule.specs.Placements.{calls, second_calls, update_calls, updates_call, func_calls, place_calls, place_calls_of, standings_from}
use Rattle.schedule.specs.Legal.{is_inlined, is_nowhere}
use Rattle.schedule.specs.Placements as standing
use Rattle.schedule.specs.Uses.{IsReached}
use Rattle.schedule.proofs.Uses.{IsSome, some_before, output_standing, standing_some, numbered_at}
use Rattle.schedule_loops.proofs.AcceptedStages.{pair_at}
use Rattle.bounds_inlining.specs.Inlining.{inlined, is_computed}
use Rattle.bounds_inlining.specs.Laws.{seen_variable}
use Rattle.bounds_inlining.specs.Passing.{passes}
use Rattle.bounds_inlining.specs.Values.{seeing}
use Rattle.bounds_inlining.proofs.Passing.{passes_tested, seen_points_pass, seen_points_pass_in_updates, passing_is_closed}
use Rattle.bounds_ranges.specs.Laws.{Below, AnswerWords}
use Rattle.bounds_ranges.proofs.PixelWords.{pixels_are_words, stages_are_words, with_words}
use Rattle.bounds_weights.specs.Weight.{flags_of}
use Rattle.bounds.specs.declared.boxes.ConsumerLoop.{ConsumerLoop}
use Rattle.bounds.specs.declared.boxes.SourceBox.{SourceBox}
use Rattle.bounds.specs.declared.verdict.Boxes.{Boxes}
use Rattle.bounds.specs.Boxes.{no_loops, lasts_of, no_spread, spread_box, same_source}
use Rattle.bounds_laws.specs.Callers.{ReadsThrough, IsReadThrough, AreReadThrough}
use Rattle.bounds_laws.specs.Closure.{is_put_in, is_boxed, is_within, held_at, is_held, AllReadsAreHeld, lies_in}
use Rattle.bounds.specs.Inference.{input_box, with_input, with_func, boxes_from, func_box, inputs_from, read_from}
use Rattle.bounds_laws.specs.Laws.{LiesIn, LiesPartly, IsBoxed, AreBoxed, IsNear, values_for, consumer_in, IsComputed, pure_points, update_points, seen_in}
use Rattle.bounds_laws.specs.Laws.{second_seen}
use Rattle.bounds.specs.Verdict.{inferred}
use Rattle.bounds_laws.proofs.BoxFacts.{HasBox, has_box, near_points, is_judged, input_at, points_within, lasts_by}
use Rattle.bounds_laws.proofs.Callers.{pure_points_are_read_through, update_points_are_read_through, or_left, or_right, updates_one}
use Rattle.bounds_laws.proofs.Found.{AreFound, are_found, in_front_is, no_below, inputs_at, pure_reads_of_inputs_lie}
use Rattle.bounds_laws.proofs.FoundFuncs.{pure_reads_of_funcs_lie}
use Rattle.bounds_laws.proofs.OwnPoints.{own_points_lie}
use Rattle.bounds_laws.proofs.OwnReads.{output_lies}
use Rattle.bounds_laws.proofs.PutIn.{put, flags, reached, agree, same_seen, put_simple, reaching, pair_there}
use Rattle.bounds_laws.proofs.Sees.{Sees, sees, zero_values}
use Rattle.bounds_laws.proofs.SomeValues.{values_found, values_given, lies_in_of, of_lies_in}
use Rattle.bounds_laws.proofs.StandingWithin.{flag_is, readers_stand_within}
use Rattle.bounds_laws.proofs.Updates.{update_reads_of_inputs_lie, update_reads_of_funcs_lie}

abbrev point_at : Source → ℕ → ℕ → Point
point_at s x y = record { source = s; x = x; y = y }

same_self : (s : Source) → same_source s s ≡ true
same_self (sources.Input place) = eq-eqb place place refl
same_self (sources.Func place) = eq-eqb place place refl

-- ---- boxes of inputs

inputs_some : (pipeline : Pipeline) (schedule : Schedule) (boxes : List (Option SourceBox)) (func_index : ℕ) (inputs : List Input) (later_boxes : List (Option SourceBox))
    → inputs_from pipeline schedule (flags_of schedule.standings) boxes func_index inputs ≡ Some later_boxes → (k : ℕ) (input : Input) → slice_get inputs k ≡ Some input
    → IsSome (slice_get later_boxes k)
inputs_some pipeline schedule boxes func_index [] later_boxes e k input there = absurd cc
inputs_some pipeline schedule boxes func_index (first ∷ others) later_boxes e k input there = by_rest (inputs_from pipeline schedule (flags_of schedule.standings) boxes
    (func_index + 1) others) refl e k there (inputs_some pipeline schedule boxes (func_index + 1) others)
  where
    own : Option SourceBox
    own = input_box pipeline schedule (flags_of schedule.standings) boxes func_index

    by_place : (behind : List (Option SourceBox)) (n : ℕ) → slice_get (first ∷ others) n ≡ Some input → ((m : ℕ) → slice_get others m ≡ Some input
        → IsSome (slice_get behind m)) → IsSome (slice_get (own ∷ behind) n)
    by_place behind zero is next = record { value = own; is = refl }
    by_place behind (suc n) is next = next n is

    by_rest : (rest : Option (List (Option SourceBox))) → inputs_from pipeline schedule (flags_of schedule.standings) boxes (func_index + 1) others ≡ rest
        → with_input pipeline schedule (flags_of schedule.standings) boxes func_index rest ≡ Some later_boxes → (n : ℕ) → slice_get (first ∷ others) n ≡ Some input
        → ((f : List (Option SourceBox)) → inputs_from pipeline schedule (flags_of schedule.standings) boxes (func_index + 1) others ≡ Some f → (m : ℕ) (i : Input)
        → slice_get others m ≡ Some i → IsSome (slice_get f m))
        → IsSome (slice_get later_boxes n)
    by_rest None is w n at next = absurd cc
    by_rest (Some behind) is w n at next =
        subst (λ (l : List (Option SourceBox)). IsSome (slice_get l n)) (in_front_is own behind later_boxes w) (by_place behind n at (λ m there_m. next behind is m
        input there_m))

funcs_some : (pipeline : Pipeline) (schedule : Schedule) (at : ℕ) (funcs : List Func)
    (later_boxes : List (Option SourceBox))
    → boxes_from pipeline schedule (flags_of schedule.standings) at funcs ≡ Some later_boxes
    → (k : ℕ) (func : Func) → slice_get funcs k ≡ Some func → IsSome (slice_get later_boxes k)
funcs_some pipeline schedule at [] later_boxes e k func there = absurd cc
funcs_some pipeline schedule at (first ∷ others) later_boxes e k func there = by_rest (boxes_from pipeline schedule (flags_of schedule.standings) (at + 1) others)
    refl e k there (funcs_some pipeline schedule (at + 1) others)
  where
    by_place : (source_box : Option SourceBox) (behind : List (Option SourceBox)) (n : ℕ) → slice_get (first ∷ others) n ≡ Some func
        → ((m : ℕ) → slice_get others m ≡ Some func → IsSome (slice_get behind m))
        → IsSome (slice_get (source_box ∷ behind) n)
    by_place source_box behind zero is next = record { value = source_box; is = refl }
    by_place source_box behind (suc n) is next = next n is

    by_rest : (rest : Option (List (Option SourceBox))) → boxes_from pipeline schedule (flags_of schedule.standings) (at + 1) others ≡ rest
        → with_func pipeline schedule (flags_of schedule.standings) at first rest ≡ Some later_boxes → (n : ℕ) → slice_get (first ∷ others) n ≡ Some func
        → ((f : List (Option SourceBox)) → boxes_from pipeline schedule (flags_of schedule.standings) (at + 1) others ≡ Some f → (m : ℕ) (g : Func)
        → slice_get others m ≡ Some g → IsSome (slice_get f m))
        → IsSome (slice_get later_boxes n)
    by_rest None is w n place next = absurd cc
    by_rest (Some behind) is w n place next =
        let source_box = func_box pipeline schedule (flags_of schedule.standings) at first behind (slice_get schedule.standings at) in
        subst (λ (l : List (Option SourceBox)). IsSome (slice_get l n)) (in_front_is source_box behind later_boxes w) (by_place source_box behind n place (λ m there_m. next behind
        is m func there_m))

boxes_some : (pipeline : Pipeline) (schedule : Schedule) (boxes : Boxes) → inferred pipeline schedule ≡ Ok boxes → (func_index : ℕ) (func : Func)
    → slice_get pipeline.funcs func_index ≡ Some func → IsSome (slice_get boxes.funcs func_index)
boxes_some pipeline schedule boxes is func_index func there = funcs_some pipeline schedule 0 pipeline.funcs boxes.funcs (are_found pipeline schedule boxes is).funcs
    func_index func there

-- ---- what lies in its box is held

boxed_true : (values : List ℕ) (answer : Option (Option SourceBox)) (x y : ℕ) → IsSome answer → IsBoxed values answer x y
    → ((source_box : SourceBox) → answer ≡ Some (Some source_box) → Below values source_box.lasts)
    → is_boxed answer x y ≡ true
boxed_true values None x y some boxed below = let is = some.is in absurd cc
boxed_true values (Some None) x y some boxed below = absurd boxed
boxed_true values (Some (Some source_box)) x y some boxed below = values_given source_box.lasts (lies_in source_box x y) values (below source_box refl) (lies_in_of source_box values x y boxed)

module _ (pipeline : Pipeline) (schedule : Schedule) (boxes : Boxes) (rules : IsWellFormed pipeline) (accepted : IsAccepted pipeline schedule)
    (is : inferred pipeline schedule ≡ Ok boxes) where
  abbrev test : Point → Bool
  test = is_held pipeline schedule boxes

  -- ---- which Funcs are computed

  produced_later : (func_index : ℕ) (own : FuncPlacement) → slice_get schedule.standings func_index ≡ Some own → IsProduced pipeline schedule.funcs func_index own
  produced_later func_index own found =
      let here : 0 + func_index ≡ func_index = omega arith in
      subst (λ (n : ℕ). IsProduced pipeline schedule.funcs n own) here (numbered_at (IsProduced pipeline schedule.funcs) 0 schedule.standings accepted.consumers
      func_index own found)

  computed_so : (func_index : ℕ) (func : Func) → slice_get pipeline.funcs func_index ≡ Some func → (own : FuncPlacement) → IsReached schedule.standings func_index own
      → flags pipeline schedule func_index ≡ false → IsComputed func_index own.place
  computed_so func_index func func_is own there plain = by_place own.place refl
    where
      plan : IsSome (slice_get schedule.funcs func_index)
      plan = pair_there IsPlan pipeline.funcs schedule.funcs func_index func accepted.plans func_is

      somewhere : is_nowhere own.place ≡ false
      somewhere = (pair_at IsLegal schedule.funcs schedule.standings func_index plan.value own accepted.legal plan.is there.standing there.reached).somewhere

      by_place : (p : ComputeLevel) → own.place ≡ p → IsComputed func_index p
      by_place places.Root e = tt
      by_place (places.At at) e = (produced_later func_index own there.standing at e).later
      by_place places.Inlined e =
          absurd (true≢false (sym (flag_is schedule.standings func_index own there.standing ∙ ap is_inlined e) ∙ plain))
      by_place places.Nowhere e = absurd (true≢false (sym (ap is_nowhere e) ∙ somewhere))

  -- ---- a Func that has a box

  module _ (reader : ℕ) (own : SourceBox) (own_is : slice_get boxes.funcs reader ≡ Some (Some own)) (values : List ℕ) (below : Below values own.lasts) (x y : ℕ)
      (lies : LiesIn values own x y) where
    abbrev box : HasBox pipeline schedule boxes reader own
    box = has_box pipeline schedule boxes accepted is reader own own_is

    abbrev Seen_so : ComputeLevel → Type 0
    Seen_so func_index = Sees pipeline schedule boxes reader own x y func_index

    -- what is known of points that the reader reads
    record AreRead (count : ℕ) (points : List Point) : Type 0 where
      inputs : (func_index : ℕ) → AreBoxed no_loops (sources.Input func_index) (slice_get boxes.inputs func_index)
          points
      funcs : (func_index : ℕ) (sought : FuncPlacement) → func_index < reader → slice_get schedule.standings func_index ≡ Some sought → sought.is_reached ≡ true
          → IsComputed func_index sought.place
          → (s : Seen_so sought.place) → AreBoxed (values_for s.consumer s.values) (sources.Func func_index) (slice_get boxes.funcs func_index) points
      own_points : reader < count → AreBoxed values (sources.Func reader) (Some (Some own)) points
      through : AreReadThrough pipeline schedule.standings reader count points

    rest : (count : ℕ) (point : Point) (points : List Point) → AreRead count (point ∷ points) → AreRead count points
    rest count point points r = record {
      inputs = λ func_index. (r.inputs func_index).1;
      funcs = λ func_index sought before found reached_so computed s. (r.funcs func_index sought before found reached_so computed s).1;
      own_points = λ l. (r.own_points l).1;
      through = r.through.1;
    }

    pub input_held : (func_index a b : ℕ) → is_some (slice_get pipeline.inputs func_index) ≡ true → IsBoxed no_loops (slice_get boxes.inputs func_index) a b
        → is_within (slice_get pipeline.inputs func_index) a b ≡ true
    input_held func_index a b some boxed = by_input (slice_get pipeline.inputs func_index) refl some
      where
        found : AreFound pipeline schedule boxes
        found = are_found pipeline schedule boxes is

        by_box : (input : Input) → slice_get pipeline.inputs func_index ≡ Some input → (answer : Option (Option SourceBox)) → slice_get boxes.inputs func_index ≡ answer
            → IsSome answer → IsBoxed no_loops answer a b
            → (nat_lt a input.width && nat_lt b input.height) ≡ true
        by_box input i None e s boxed_so = let wrong = s.is in absurd cc
        by_box input i (Some None) e s boxed_so = absurd boxed_so
        by_box input i (Some (Some other)) e s boxed_so =
            let spread = read_from pipeline schedule (flags_of schedule.standings) 0 None (sources.Input func_index) boxes.funcs no_spread in
            let here : 0 + func_index ≡ func_index = omega arith in
            let box_is : spread_box None spread ≡ Some other =
            sym (inputs_at pipeline schedule (flags_of schedule.standings) boxes.funcs 0 pipeline.inputs boxes.inputs found.inputs func_index (Some other) e
            ∙ ap (λ (n : ℕ). input_box pipeline schedule (flags_of schedule.standings) boxes.funcs n) here) in
            let lasts = lasts_by no_loops spread.x spread.y other box_is in
            let k = points_within input other no_loops a b (subst (λ (l : List ℕ). Below no_loops l) (sym lasts) no_below) (input_at pipeline.inputs
            boxes.inputs func_index input other (is_judged pipeline schedule boxes is).inputs i e) boxed_so in
            and_from (nat_lt a input.width) (nat_lt b input.height) (lt-ltb a input.width k.0) (lt-ltb b input.height k.1)

        by_input : (input : Option Input) → slice_get pipeline.inputs func_index ≡ input → is_some input ≡ true → is_within input a b ≡ true
        by_input None i s = absurd cc
        by_input (Some input) i s = by_box input i (slice_get boxes.inputs func_index) refl (inputs_some pipeline schedule boxes.funcs 0 pipeline.inputs boxes.inputs
            found.inputs func_index input i) boxed

    func_held : (func_index a b : ℕ) → is_boxed (slice_get boxes.funcs func_index) a b ≡ true → test (point_at (sources.Func func_index) a b) ≡ true
    func_held func_index a b e = or_right (put pipeline schedule func_index)
        (is_boxed (slice_get boxes.funcs func_index) a b) e

    other_held : (func_index a b : ℕ) → flags pipeline schedule func_index ≡ false → ReadsThrough pipeline schedule.standings reader func_index
        → ((sought : FuncPlacement) → func_index < reader → slice_get schedule.standings func_index ≡ Some sought → sought.is_reached ≡ true → IsComputed func_index sought.place
        → (s : Seen_so sought.place) → IsBoxed (values_for s.consumer s.values) (slice_get boxes.funcs func_index) a b)
        → test (point_at (sources.Func func_index) a b) ≡ true
    other_held func_index a b plain through boxed_so =
        let w = readers_stand_within pipeline schedule accepted reader box.standing box.there box.computed func_index through in
        let entry = some_before boxes.funcs reader func_index (Some own) own_is w.before in
        let func = some_before pipeline.funcs reader func_index box.func box.func_is w.before in
        let computed = computed_so func_index func.value func.is w.own w.there plain in
        let s = sees pipeline schedule boxes rules accepted is reader own own_is values below x y lies func_index w computed in
        func_held func_index a b
        (boxed_true (values_for s.consumer s.values) (slice_get boxes.funcs func_index) a b entry (boxed_so w.own w.before w.there.standing w.there.reached computed
        s)
        (λ other e.
        let theirs = has_box pipeline schedule boxes accepted is func_index other e in
        let same_standing : theirs.standing ≡ w.own = let p = theirs.there.standing in let q = w.there.standing in cc in
        let lasts : other.lasts ≡ lasts_of s.consumer =
        theirs.lasts ∙ ap (λ (t : FuncPlacement). lasts_of (consumer_in schedule boxes.funcs t.place)) same_standing ∙ ap lasts_of s.consumer_is in
        subst (λ (l : List ℕ). Below (values_for s.consumer s.values) l) (sym lasts) s.below_consumer))

    point_held : (count : ℕ) (s : Source) (a b : ℕ) (points : List Point) → AreRead count (point_at s a b ∷ points)
        → IsReadThrough pipeline schedule.standings reader count s → test (point_at s a b) ≡ true
    point_held count (sources.Input func_index) a b points r through = input_held func_index a b through ((r.inputs func_index).0 (same_self (sources.Input func_index)))
    point_held count (sources.Func func_index) a b points r (plain, (few, inl e)) =
        let own_entry : slice_get boxes.funcs func_index ≡ Some (Some own) = ap (λ (n : ℕ). slice_get boxes.funcs n) e ∙ own_is in
        let same : same_source (sources.Func func_index) (sources.Func reader) ≡ true = eq-eqb func_index reader e in
        let inside = (r.own_points (subst (λ (n : ℕ). n < count) e few)).0 same in
        func_held func_index a b (ap (λ (o : Option (Option SourceBox)). is_boxed o a b) own_entry
        ∙ values_given own.lasts (lies_in own a b) values below (lies_in_of own values a b inside))
    point_held count (sources.Func func_index) a b points r (plain, (few, inr through)) =
        other_held func_index a b plain through (λ sought before found reached_so computed s. (r.funcs func_index sought before found reached_so computed s).0
        (same_self (sources.Func func_index)))

    all_held : (count : ℕ) (points : List Point) → AreRead count points → Hold test points
    all_held count [] r = tt
    all_held count (point ∷ points) r = (point_held count point.source point.x point.y points r r.through.0, all_held count points (rest count point points r))

    -- ---- the pure definition

    near : IsNear x × IsNear y
    near = near_points own values x y below box.near lies

    pub pure_held : (reads : Reads) → AnswerWords pipeline.inputs reads → (func : Func) → slice_get pipeline.funcs reader ≡ Some func
        → Hold test (pure_points pipeline schedule reads reader func x y)
    pure_held reads words func func_is =
        all_held reader (pure_points pipeline schedule reads reader func x y) (record {
          inputs = λ func_index. pure_reads_of_inputs_lie pipeline schedule boxes rules is reader func own func_is own_is reads words values below x y lies func_index;
          funcs = λ func_index sought before found reached_so computed s.
              pure_reads_of_funcs_lie pipeline schedule boxes rules is reader func own func_is own_is func_index sought before found reached_so computed s.consumer
              s.consumer_is s.view s.view_is reads words s.values s.below_view s.below_consumer x y s.lies;
          own_points = λ l. absurd (omega (arith, l));
          through = pure_points_are_read_through pipeline schedule rules reader func func_is reads x y;
        })

    -- ---- updates

    values_same : (consumer : Option ConsumerLoop) → own.lasts ≡ lasts_of consumer → values_for consumer values ≡ values
    values_same None e = sym (zero_values values (subst (λ (l : List ℕ). Below values l) e below))
    values_same (Some consumer) e = refl

    pub update_held : (reads : Reads) → AnswerWords pipeline.inputs reads → (func : Func) → slice_get pipeline.funcs reader ≡ Some func
        → flags pipeline schedule reader ≡ false
        → (at : ℕ) (update : Update) → slice_get func.updates at ≡ Some update → (number : ℕ) → number < points update
        → Hold test (update_points pipeline schedule reads reader update number x y)
    update_held reads words func func_is plain at update update_is number few =
        let consumer = consumer_in schedule boxes.funcs box.standing.place in
        let same = values_same consumer box.lasts in
        all_held (suc reader) (update_points pipeline schedule reads reader update number x y) (record {
          inputs = λ func_index. update_reads_of_inputs_lie pipeline schedule boxes rules is reader func own func_is own_is at update update_is reads words values
              below x y lies near.0 near.1 number few func_index;
          funcs = λ func_index sought before found reached_so computed s.
              update_reads_of_funcs_lie pipeline schedule boxes rules is reader func own func_is own_is at update update_is func_index sought before found reached_so
              computed s.consumer s.consumer_is s.view s.view_is reads words s.values s.below_view s.below_consumer x y s.lies near.0 near.1 number few;
          own_points = λ l.
              subst (λ (v : List ℕ). AreBoxed v (sources.Func reader) (Some (Some own)) (update_points pipeline schedule reads reader update number x y)) same
              (own_points_lie pipeline schedule boxes rules is reader func box.standing func_is box.there.standing box.there.reached box.computed consumer refl
              values
              (subst (λ (v : List ℕ). Below v (lasts_of consumer)) (sym same) (subst (λ (t : List ℕ). Below values t) box.lasts below))
              own own_is at update update_is reads words x y lies.first.word lies.second.word near.0 near.1 number few
              (subst (λ (v : List ℕ). LiesPartly v own (is_first_in_place update) (is_second_in_place update) x y) (sym same)
              (record { first = λ t. lies.first; second = λ t. lies.second })));
          through = update_points_are_read_through pipeline schedule rules reader func func_is plain at update update_is reads number x y;
        })

  -- ---- the pixels of a Func

  module _ (inputs : Planes) (begun : AnswerWords pipeline.inputs (reads_of inputs (pixels pipeline.funcs inputs 0))) where
    abbrev found_by : ℕ → Reads
    found_by count = reads_of inputs (pixels pipeline.funcs inputs count)

    words : (count : ℕ) → AnswerWords pipeline.inputs (found_by count)
    words count = pixels_are_words pipeline.inputs pipeline.funcs inputs rules.funcs begun count

    abbrev passing : Point → Bool
    passing = passes test (put pipeline schedule) pipeline.funcs inputs (length pipeline.funcs)

    -- a point of a Func that isn't put in place passes exactly if it lies in the Func's box
    record IsInBox (func_index x y : ℕ) : Type 0 where
      own : SourceBox
      own_is : slice_get boxes.funcs func_index ≡ Some (Some own)
      values : List ℕ
      below : Below values own.lasts
      lies : LiesIn values own x y

    in_box_by : (func_index x y : ℕ) (answer : Option (Option SourceBox)) → slice_get boxes.funcs func_index ≡ answer → is_boxed answer x y ≡ true → IsInBox func_index x y
    in_box_by func_index x y None e b = absurd cc
    in_box_by func_index x y (Some None) e b = absurd cc
    in_box_by func_index x y (Some (Some own)) e b =
        let v = values_found own.lasts (lies_in own x y) b in
        record { own = own; own_is = e; values = v.values; below = v.below; lies = of_lies_in own v.values x y v.passed }

    in_box : (func_index x y : ℕ) → put pipeline schedule func_index ≡ false → passing (point_at (sources.Func func_index) x y) ≡ true → IsInBox func_index x y
    in_box func_index x y plain passed =
        let tested : test (point_at (sources.Func func_index) x y) ≡ true = sym (passes_tested test (put pipeline schedule) pipeline.funcs inputs
        (length pipeline.funcs) (sources.Func func_index) x y (ap not plain)) ∙ passed in
        in_box_by func_index x y (slice_get boxes.funcs func_index) refl (ap (λ (b : Bool). b || is_boxed (slice_get boxes.funcs func_index) x y) (sym plain) ∙ tested)

    module _ (func_index : ℕ) (func : Func) (func_is : slice_get pipeline.funcs func_index ≡ Some func) (plain : put pipeline schedule func_index ≡ false) where
      few : func_index < length pipeline.funcs
      few = elim (cases_lt func_index (length pipeline.funcs)) [
        | inl l ↦ l
        | inr l ↦ let none = slice_get_past pipeline.funcs func_index l in absurd cc
      ]

      module _ (x y : ℕ) (passed : passing (point_at (sources.Func func_index) x y) ≡ true) where
        abbrev at_box : IsInBox func_index x y
        at_box = in_box func_index x y plain passed

        abbrev box_at : HasBox pipeline schedule boxes func_index at_box.own
        box_at = has_box pipeline schedule boxes accepted is func_index at_box.own at_box.own_is

        reached_here : reached pipeline schedule func_index ≡ true
        reached_here = ap reached_of box_at.there.standing ∙ box_at.there.reached
          where
            reached_of : Option FuncPlacement → Bool
            reached_of None = false
            reached_of (Some s) = s.is_reached

        unflagged : flags pipeline schedule func_index ≡ false
        unflagged = agree pipeline schedule func_index reached_here ∙ plain

        calling_pure : (other : ℕ) → calls other func.pure ≡ true → place_calls pipeline func_index other ≡ true
        unfolding place_calls func_calls
        calling_pure other e = ap (place_calls_of other) func_is ∙ or_left (calls other func.pure) (updates_call other func.updates) e

        calling : (at : ℕ) (update : Update) → slice_get func.updates at ≡ Some update → (other : ℕ) → update_calls other update ≡ true
            → place_calls pipeline func_index other ≡ true
        unfolding place_calls func_calls
        calling at update update_is other e =
            ap (place_calls_of other) func_is ∙ or_right (calls other func.pure) (updates_call other func.updates) (updates_one other func.updates at update
            update_is e)

        -- what an expression reads in its text passes, where what it reads through inlined Funcs is held
        text_passes : (environment : Environment) (has : Variable → Bool) (e : Expr) → keeps (is_read pipeline.inputs pipeline.funcs func_index) has e ≡ true
            → ((other : ℕ) → calls other e ≡ true → place_calls pipeline func_index other ≡ true)
            → Hold test (inlined (seeing (found_by func_index)) (flags pipeline schedule) pipeline.funcs func_index (seen_variable environment) e).points
            → Hold passing (points_read (found_by func_index) environment e)
        text_passes environment has e kept called held =
            seen_points_pass test (found_by func_index) (put pipeline schedule) pipeline.inputs pipeline.funcs inputs rules.funcs (put_simple pipeline schedule
            accepted) func_index (λ s n a b computed read. refl) has environment e kept
            (subst (λ s. Hold test s.points) (same_seen pipeline schedule rules accepted (found_by func_index) func_index environment has e kept
            (reaching pipeline schedule rules accepted (found_by func_index) func_index reached_here e called)) held)
            (length pipeline.funcs) (omega (arith, few))

        pure_passes : Hold passing (points_read (found_by func_index) (at_point x y) func.pure)
        pure_passes =
            text_passes (at_point x y) (is_argument (dimensions func)) func.pure (rules.funcs func_index func func_is).pure calling_pure
            (pure_held func_index at_box.own at_box.own_is at_box.values at_box.below x y at_box.lies (found_by func_index) (words func_index) func func_is)

        module _ (at : ℕ) (update : Update) (update_is : slice_get func.updates at ≡ Some update) (number : ℕ) (inside : number < points update) where
          formed : IsUpdate pipeline.inputs pipeline.funcs func_index (dimensions func) update
          formed = (rules.funcs func_index func func_is).updates at update update_is

          abbrev point : Environment
          point = at_reduction update number x y

          has : Variable → Bool
          has = is_update_variable (dimensions func) update.second

          parts_held : (reads : Reads) → AnswerWords pipeline.inputs reads
              → Hold test (seen_in pipeline schedule reads func_index point update.left_x).points
              × (Hold test (second_seen pipeline schedule reads func_index point update.left_y).points × Hold test (seen_in pipeline schedule reads (suc func_index) point
              update.right).points)
          parts_held reads are_words =
              let all = update_held func_index at_box.own at_box.own_is at_box.values at_box.below x y at_box.lies reads are_words func func_is unflagged at update
              update_is number inside in
              let a = all_parts (λ (p : Point). test p ≡ true) (seen_in pipeline schedule reads func_index point update.left_x).points _ all in
              let b = all_parts (λ (p : Point). test p ≡ true) (second_seen pipeline schedule reads func_index point update.left_y).points _ a.1 in
              (a.0, (b.0, b.1.1))

          index_passes : (index : Option Expr) → index ≡ update.left_y → keeps_index (is_read pipeline.inputs pipeline.funcs func_index) has (dimensions func) index
              ≡ true
              → Hold test (second_seen pipeline schedule (found_by func_index) func_index point index).points → Hold passing (index_points (found_by func_index) point index)
          unfolding has
          index_passes None e kept held = tt
          index_passes (Some index) e kept held =
              text_passes point has index (and_parts (dimensions func == 2) (keeps (is_read pipeline.inputs pipeline.funcs func_index) has index) kept).1
              (λ other c. calling at update update_is other (or_left (calls other update.left_x || second_calls other update.left_y) (calls other update.right)
              (or_right (calls other update.left_x) (second_calls other update.left_y) (ap (second_calls other) (sym e) ∙ c))))
              held

          left_passes : Hold passing (left_points (found_by func_index) point update)
          unfolding has
          left_passes =
              let held = parts_held (found_by func_index) (words func_index) in
              all_both (λ (p : Point). passing p ≡ true) (points_read (found_by func_index) point update.left_x) (index_points (found_by func_index) point update.left_y)
              (text_passes point has update.left_x formed.left_x
              (λ other c. calling at update update_is other (or_left (calls other update.left_x || second_calls other update.left_y) (calls other update.right)
              (or_left (calls other update.left_x) (second_calls other update.left_y) c)))
              held.0)
              (index_passes update.left_y refl formed.left_y held.1.0)

          abbrev plane : ℕ → ℕ → ℕ
          plane = after func_index update inputs (pixels pipeline.funcs inputs func_index) (stage func_index func inputs (pixels pipeline.funcs inputs func_index) at) number

          abbrev standing_reads : Reads
          standing_reads = reads_of inputs (with_plane func_index plane (pixels pipeline.funcs inputs func_index))

          plane_words : (a b : ℕ) → a < 2 ^ 32 → b < 2 ^ 32 → plane a b < 2 ^ 32
          plane_words a b la lb = stages_are_words pipeline.inputs pipeline.funcs inputs rules.funcs func_index func func_is (words func_index) at update update_is number
              a b la lb

          all_words : AnswerWords pipeline.inputs standing_reads
          all_words = with_words pipeline.inputs pipeline.funcs rules.funcs inputs func_index plane (pixels pipeline.funcs inputs func_index) plane_words (words func_index)

          answers : (s : Source) (n a b : ℕ) → is_computed (put pipeline schedule) s ≡ true → is_read pipeline.inputs pipeline.funcs func_index s n ≡ true
              → standing_reads s a b ≡ found_by func_index s a b
          answers (sources.Input other) n a b computed read = refl
          answers (sources.Func other) n a b computed read =
              let before : other < func_index = ltb-true other func_index (and_parts (nat_lt other func_index) (is_func_of (slice_get pipeline.funcs other) n) read).0 in
              let differs : (other == func_index) ≡ false = ne_eqb other func_index (λ (e : other ≡ func_index). omega (arith, e, before)) in
              ap (λ (b' : Bool). cond b' plane (pixels pipeline.funcs inputs func_index other) a b) differs

          own_answers : (a b : ℕ) → standing_reads (sources.Func func_index) a b ≡ plane a b
          own_answers a b = ap (λ (t : Bool). cond t plane (pixels pipeline.funcs inputs func_index func_index) a b) (eq-eqb func_index func_index refl)

          reaching_right : (other : ℕ) → other < suc func_index → calls other update.right ≡ true → reached pipeline schedule other ≡ true
          reaching_right other below c = elim (cases_lt other func_index) [
            | inl l ↦
                reaching pipeline schedule rules accepted (found_by func_index) func_index reached_here update.right
                (λ o e. calling at update update_is o (or_right (calls o update.left_x || second_calls o update.left_y) (calls o update.right) e)) other l c
            | inr l ↦ let same : other ≡ func_index = omega (arith, l, below) in ap (reached pipeline schedule) same ∙ reached_here
          ]

          right_passes : Hold passing (points_read standing_reads point update.right)
          unfolding has
          right_passes =
              seen_points_pass_in_updates test standing_reads (put pipeline schedule) pipeline.inputs pipeline.funcs inputs rules.funcs
              (put_simple pipeline schedule accepted) func_index plane plain answers own_answers has point update.right formed.right
              (subst (λ s. Hold test s.points) (same_seen pipeline schedule rules accepted standing_reads (suc func_index) point has update.right formed.right
              reaching_right) (parts_held standing_reads all_words).1.1)
              (length pipeline.funcs) few

      pub reads_hold : ReadsHold passing func_index func inputs (pixels pipeline.funcs inputs func_index)
      reads_hold = record {
        pure = λ x y passed. pure_passes x y passed;
        left = λ at update update_is number x y inside passed. left_passes x y passed at update update_is number inside;
        right = λ at update update_is number x y inside passed hit. right_passes x y passed at update update_is number inside;
      }

    -- ---- all reads, one by one

    closed : (func_index x y : ℕ) → passing (point_at (sources.Func func_index) x y) ≡ true → Hold passing (direct_trace pipeline.funcs inputs func_index x y)
    closed func_index x y passed = by_func (slice_get pipeline.funcs func_index) refl
      where
        by_flag : (func : Func) → slice_get pipeline.funcs func_index ≡ Some func → (flag : Bool) → put pipeline schedule func_index ≡ flag
            → Hold passing (direct_trace pipeline.funcs inputs func_index x y)
        by_flag func func_is true f =
            passing_is_closed test (put pipeline schedule) pipeline.inputs pipeline.funcs inputs rules.funcs (put_simple pipeline schedule accepted)
            (length pipeline.funcs) func_index x y (below_length func func_is) f passed
          where
            below_length : (g : Func) → slice_get pipeline.funcs func_index ≡ Some g
                → func_index < length pipeline.funcs
            below_length g found = elim (cases_lt func_index (length pipeline.funcs)) [
              | inl l ↦ l
              | inr l ↦ let none = slice_get_past pipeline.funcs func_index l in absurd cc
            ]
        by_flag func func_is false f = definitions_hold_reads passing pipeline.funcs inputs func_index func func_is (reads_hold func_index func func_is f) x y passed

        by_func : (func : Option Func) → slice_get pipeline.funcs func_index ≡ func → Hold passing (direct_trace pipeline.funcs inputs func_index x y)
        by_func None e = rw e tt
        by_func (Some func) e = by_flag func e (put pipeline schedule func_index) refl

    -- what passes is held
    held_of : (point : Point) → passing point ≡ true → test point ≡ true
    held_of point passed = by_source point.source refl
      where
        by_flag : (func_index : ℕ) → point.source ≡ sources.Func func_index → (flag : Bool) → put pipeline schedule func_index ≡ flag → test point ≡ true
        by_flag func_index e true f = ap (λ (s : Source). held_at pipeline schedule boxes s point.x point.y) e
            ∙ or_left (put pipeline schedule func_index) (is_boxed (slice_get boxes.funcs func_index) point.x point.y) f
        by_flag func_index e false f =
            sym (passes_tested test (put pipeline schedule) pipeline.funcs inputs (length pipeline.funcs) point.source point.x point.y
            (ap (is_computed (put pipeline schedule)) e ∙ ap not f)) ∙ passed

        by_source : (s : Source) → point.source ≡ s → test point ≡ true
        by_source (sources.Input func_index) e =
            sym (passes_tested test (put pipeline schedule) pipeline.funcs inputs (length pipeline.funcs) point.source point.x point.y
            (ap (is_computed (put pipeline schedule)) e)) ∙ passed
        by_source (sources.Func func_index) e = by_flag func_index e (put pipeline schedule func_index) refl

    all_of : (points : List Point) → Hold passing points → Hold test points
    all_of [] held = tt
    all_of (point ∷ others) held = (held_of point held.0, all_of others held.1)

    module _ (x y : ℕ) (inside_x : x < pipeline.output.width) (inside_y : y < pipeline.output.height) where
      abbrev func_index : ℕ
      func_index = pipeline.output.func

      drawn_func : (own : Option Func) (n : ℕ) → is_func_of own n ≡ true → IsSome own
      drawn_func None n e = absurd cc
      drawn_func (Some own) n e = record { value = own; is = refl }

      drawn : IsSome (slice_get pipeline.funcs func_index)
      drawn = drawn_func (slice_get pipeline.funcs func_index) pipeline.output.dimensions rules.drawn

      all_standings : schedule.standings ≡ standings_from pipeline schedule.funcs 0 schedule.funcs
      unfolding standing.standings
      all_standings = accepted.standings

      own_standing : IsSome (slice_get schedule.standings func_index)
      own_standing =
          let plan = pair_there IsPlan pipeline.funcs schedule.funcs func_index drawn.value accepted.plans drawn.is in
          subst (λ (l : List FuncPlacement). IsSome (slice_get l func_index)) (sym all_standings) (standing_some pipeline schedule.funcs 0 schedule.funcs func_index plan.value
          plan.is)

      known : (own_standing.value.is_reached ≡ true) × (own_standing.value.place ≡ places.Root)
      known = output_standing pipeline schedule.funcs own_standing.value (ap (λ (l : List FuncPlacement). slice_get l func_index) (sym all_standings) ∙ own_standing.is)

      entry_by : (answer : Option (Option SourceBox)) → slice_get boxes.funcs func_index ≡ answer → IsBoxed no_loops answer x y → IsSome answer
          → is_boxed answer x y ≡ true
      entry_by answer e boxed some =
          boxed_true no_loops answer x y some boxed
          (λ own f.
          let theirs = has_box pipeline schedule boxes accepted is func_index own (e ∙ f) in
          let same_standing : theirs.standing ≡ own_standing.value = let p = theirs.there.standing in let q = own_standing.is in cc in
          let lasts : own.lasts ≡ no_loops = theirs.lasts ∙ ap (λ (t : FuncPlacement). lasts_of (consumer_in schedule boxes.funcs t.place)) same_standing
          ∙ ap (λ (p : ComputeLevel). lasts_of (consumer_in schedule boxes.funcs p)) known.1 in
          subst (λ (l : List ℕ). Below no_loops l) (sym lasts) no_below)

      output_held : test (point_at (sources.Func func_index) x y) ≡ true
      output_held =
          or_right (put pipeline schedule func_index) (is_boxed (slice_get boxes.funcs func_index) x y)
          (entry_by (slice_get boxes.funcs func_index) refl (output_lies pipeline schedule boxes rules is own_standing.value own_standing.is known.0 known.1 x y
          inside_x inside_y)
          (boxes_some pipeline schedule boxes is func_index drawn.value drawn.is))

      plain_output : put pipeline schedule func_index ≡ false
      plain_output = ap is_put_in own_standing.is ∙ (ap (λ (b : Bool). b && is_inlined own_standing.value.place) known.0 ∙ ap is_inlined known.1)

      output_passes : passing (point_at (sources.Func func_index) x y) ≡ true
      output_passes = passes_tested test (put pipeline schedule) pipeline.funcs inputs (length pipeline.funcs) (sources.Func func_index) x y (ap not plain_output)
          ∙ output_held

      pub all_reads : Hold test (point_at (sources.Func func_index) x y ∷ pixel_trace pipeline.funcs inputs (length pipeline.funcs) func_index x y)
      all_reads = (
        output_held,
        all_of (pixel_trace pipeline.funcs inputs (length pipeline.funcs) func_index x y) (closed_points_hold_reads pipeline.funcs inputs passing closed
            (length pipeline.funcs) func_index x y output_passes),
      )

pub all_reads_are_held : AllReadsAreHeld
all_reads_are_held pipeline schedule boxes rules accepted is inputs begun x y inside_x inside_y = all_reads pipeline schedule boxes rules accepted is inputs
    begun x y inside_x inside_y
