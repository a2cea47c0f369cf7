-- What an update of a Func at root reads of other Funcs.
use Rattle.std.proofs.Common.{◌≡◌, ℕ, suc, ◌+◌, ◌<◌, Bool, true, false, List, [], ◌∷◌, length, Option, Some, None, refl, sym, ap, subst, ◌∙◌, arith, inl, inr}
use Rattle.std.proofs.Common.{true≢false}
use Rattle.std.specs.Prelude.{◌&&◌, nat_lt, slice_get, Ok}
use Rattle.std.specs.List.{AllByRecursion}
use Rattle.std.proofs.lemmas.Bool.{and_from, lt-ltb, eq-eqb}
use Rattle.halide_pipeline.specs.declared.definitions.Func.{Func}
use Rattle.halide_pipeline.specs.declared.definitions.Update.{Update}
use Rattle.halide_pipeline.specs.declared.expressions.Source.{Source}
use Rattle.halide_pipeline.specs.declared.expressions.Source.TheVariants as sources
use Rattle.halide_pipeline.specs.Pipelines.{Pipeline}
use Rattle.halide_pipeline.specs.WellFormed.{IsWellFormed}
use Rattle.halide_pipeline.specs.Words as word
use Rattle.halide_pipeline.specs.Pixel.{Planes, Reads, reads_of, with_plane, pixels, points}
use Rattle.halide_pipeline.specs.Points.{Point}
use Rattle.schedule_lines.specs.declared.stages.Stage.{Stage}
use Rattle.schedule.specs.declared.plans.FuncPlan.{FuncPlan}
use Rattle.schedule.specs.declared.schedules.Schedule.{Schedule}
use Rattle.schedule.specs.declared.placements.LoopPosition.{LoopPosition}
use Rattle.schedule.specs.declared.placements.ComputeLevel.{ComputeLevel}
use Rattle.schedule.specs.declared.placements.ComputeLevel.TheVariants as places
use Rattle.schedule.specs.declared.placements.FuncPlacement.{FuncPlacement}
use Rattle.schedule.specs.Accepted.{IsAccepted, IsPlan, IsLegal, IsProduced}
use Rattle.schedule.specs.Legal.{is_inlined, is_nowhere}
use Rattle.schedule.specs.Uses.{IsReached}
use Rattle.schedule.proofs.Uses.{IsSome, some_before, numbered_at}
use Rattle.schedule_loops.specs.Visits as loops
use Rattle.schedule_loops.proofs.AcceptedStages.{pair_at}
use Rattle.bounds_inlining.specs.Inlining.{flagged}
use Rattle.bounds_ranges.specs.Laws.{Below, Lies, AnswerWords}
use Rattle.bounds_weights.specs.Weight.{flags_of}
use Rattle.bounds.specs.declared.boxes.SourceBox.{SourceBox}
use Rattle.bounds.specs.declared.verdict.Boxes.{Boxes}
use Rattle.bounds.specs.Boxes.{no_loops, lasts_of, same_source}
use Rattle.bounds.specs.Extents.{extent, word_at}
use Rattle.bounds.specs.Verdict.{inferred}
use Rattle.bounds_laws.specs.Callers.{IsReadThrough, AreReadThrough, IsReadWithin, StandsAt, HasLoop, IsWithin}
use Rattle.bounds_laws.specs.Laws.{LiesIn, IsBoxed, AreBoxed, IsComputed, consumer_in, update_points}
use Rattle.bounds_laws.proofs.BoxesProduced.{boxes_are_produced, points_are_near}
use Rattle.bounds_laws.proofs.Callers.{update_points_are_read_through}
use Rattle.bounds_laws.proofs.Found.{no_below}
use Rattle.bounds_laws.proofs.PutIn.{pair_there}
use Rattle.bounds_laws.proofs.StandingWithin.{flag_is, one_standing, readers_stand_within}
use Rattle.bounds_laws.proofs.Updates.{update_reads_of_funcs_lie}
use Rattle.loop_ir.specs.Counters.{Values}
use Rattle.lowering_nests.specs.Nests.{put_loops}
use Rattle.lowering_expressions.specs.declared.calls.Corner.{Corner}
use Rattle.lowering_expressions.specs.Lowering.{placed}
use Rattle.lowering.specs.Planes.{held, box_points}
use Rattle.lowering.specs.Corners.{AreCorners}
use Rattle.lowering.specs.PurePhases.{RootsAreShared}
use Rattle.bounds.specs.Stages.{IsAtRoot}
use Rattle.lowering.specs.Stages.{is_private, is_private_in, is_at_loop}
use Rattle.lowering.specs.Updates.{IsUpdateAt, ReadsPixels}
use Rattle.lowering.proofs.RootFacts.{ConsumersNone, is_box, no_lasts, offset_within, offset_back, root_corner_at}
use Rattle.lowering.proofs.Values.{same_self}

-- ---- standings

no_stage : (stages : List Stage) (at : ℕ) (stage : Stage) → slice_get stages at ≡ Some stage → length stages ≡ 0 → ⊥
no_stage [] at stage found none = cc
no_stage (first ∷ others) at stage found none = omega (arith, none)

module _ (pipeline : Pipeline) (schedule : Schedule) (accepted : IsAccepted pipeline schedule) where
  -- No Func is computed at a loop of one with an update.
  pub consumers_none : (func_index : ℕ) (plan : FuncPlan) (at : ℕ) (stage : Stage) → slice_get schedule.funcs func_index ≡ Some plan
      → slice_get plan.updates at ≡ Some stage → ConsumersNone schedule.standings func_index
  consumers_none func_index plan at stage plan_is stage_is other own consumer there place_is same =
      let here : 0 + other ≡ other = omega arith in
      let produced : IsProduced pipeline schedule.funcs other own =
      subst (λ (n : ℕ). IsProduced pipeline schedule.funcs n own) here (numbered_at (IsProduced pipeline schedule.funcs) 0 schedule.standings accepted.consumers
      other own there.standing) in
      let h = produced consumer place_is in
      let same_plan : Some h.plan ≡ Some plan = sym h.plan_is ∙ ap (slice_get schedule.funcs) same ∙ plan_is in
      let plan_same : h.plan ≡ plan = cc in
      no_stage plan.updates at stage stage_is (ap (λ (p : FuncPlan). length p.updates) (sym plan_same) ∙ h.no_updates)

  -- So nothing that is computed at a loop is read by a root that consumers none.
  pub none_within : (func_index : ℕ) (its : FuncPlacement) → IsReached schedule.standings func_index its → its.place ≡ places.Root → ConsumersNone schedule.standings func_index
      → (k : ℕ) (w : IsReadWithin schedule func_index k) (consumer : LoopPosition) → w.own.place ≡ places.At consumer
      → ⊥
  none_within func_index its there root none k w consumer e = by_stand (w.within consumer e)
    where
      by_stand : StandsAt schedule consumer func_index → ⊥
      by_stand (HasLoop same) = none k w.own consumer w.there e (sym same)
      by_stand (IsWithin standing other there_too other_place inside) =
          let same = one_standing schedule.standings func_index standing its there_too.standing there.standing in
          let wrong : places.At other ≡ places.Root = sym other_place ∙ ap (λ (s : FuncPlacement). s.place) same ∙ root in
          cc

  pub roots_are_shared : RootsAreShared schedule.standings (is_private schedule.standings)
  roots_are_shared other own there root =
      ap is_private_in there.standing ∙ (ap (λ (b : Bool). b && is_at_loop own.place) there.reached ∙ ap is_at_loop root)

-- ---- reads

module _ (pipeline : Pipeline) (schedule : Schedule) (boxes : Boxes) (rules : IsWellFormed pipeline) (accepted : IsAccepted pipeline schedule)
    (is : inferred pipeline schedule ≡ Ok boxes)
    (func_index : ℕ) (func : Func) (plan : FuncPlan) (source_box : SourceBox) (at : IsAtRoot pipeline schedule boxes func_index func plan source_box)
    (number_at : ℕ) (update : Update) (stage : Stage) (it : IsUpdateAt schedule func_index func plan number_at update
    stage)
    (inputs : Planes) (begun : AnswerWords pipeline.inputs (reads_of inputs (pixels pipeline.funcs inputs 0)))
    (corners : List Corner) (are : AreCorners schedule.funcs boxes.funcs schedule.standings corners) (before : Values) (buffers : Planes)
    (hold : (k x y : ℕ) → (k ≡ func_index → ⊥) → is_private schedule.standings k ≡ false → box_points boxes.funcs k x y ≡ true
    → buffers k x y ≡ held boxes.funcs (pixels pipeline.funcs inputs func_index) k x y) where
  computed : IsComputed func_index at.standing.place
  computed = subst (λ (p : ComputeLevel). IsComputed func_index p) (sym at.placed_is) tt

  plain : flagged (flags_of schedule.standings) func_index ≡ false
  plain = flag_is schedule.standings func_index at.standing at.there.standing ∙ ap is_inlined at.placed_is

  none_produced : ConsumersNone schedule.standings func_index
  none_produced = consumers_none pipeline schedule accepted func_index plan number_at stage it.plan_is it.stage_is

  -- ---- which Funcs are read

  somewhere : (k : ℕ) → k < func_index → (placement : FuncPlacement) → IsReached schedule.standings k placement → is_nowhere placement.place ≡ false
  somewhere k earlier placement there =
      let f = some_before pipeline.funcs func_index k func at.func_is earlier in
      let p = pair_there IsPlan pipeline.funcs schedule.funcs k f.value accepted.plans f.is in
      (pair_at IsLegal schedule.funcs schedule.standings k p.value placement accepted.legal p.is there.standing there.reached).somewhere

  root_read : (k : ℕ) (w : IsReadWithin schedule func_index k) → flagged (flags_of schedule.standings) k ≡ false → (p : ComputeLevel) → w.own.place ≡ p → p ≡ places.Root
  root_read k w unflagged places.Root e = refl
  root_read k w unflagged (places.At consumer) e = absurd (none_within pipeline schedule accepted func_index at.standing at.there at.placed_is none_produced k w
      consumer e)
  root_read k w unflagged places.Inlined e = absurd (true≢false (sym (flag_is schedule.standings k w.own w.there.standing ∙ ap is_inlined e) ∙ unflagged))
  root_read k w unflagged places.Nowhere e = absurd (true≢false (sym (ap is_nowhere e) ∙ somewhere k w.before w.own w.there))

  -- ---- a point that is read

  abbrev found : loops.Values → Reads
  found inner = placed corners (put_loops func_index inner before) (reads_of inputs buffers)

  abbrev wanted : Reads
  wanted = reads_of inputs (pixels pipeline.funcs inputs func_index)

  module _ (inner : loops.Values) where
    found_in : (k a b : ℕ) (box : SourceBox) (sought : FuncPlacement) → slice_get schedule.standings k ≡ Some sought → sought.place ≡ places.Root
        → slice_get boxes.funcs k ≡ Some (Some box) → LiesIn no_loops box a b → box.lasts ≡ no_loops → is_private schedule.standings k ≡ false → k < func_index
        → found inner (sources.Func k) a b ≡ wanted (sources.Func k) a b
    unfolding placed
    found_in k a b box sought sought_is sought_root box_is lies lasts public_so earlier =
        let now : Values = put_loops func_index inner before in
        let c = root_corner_at schedule boxes corners k box sought are box_is sought_is sought_root in
        let i = word.subtract a (word_at box.x.low) in
        let j = word.subtract b (word_at box.y.low) in
        let first = subst (λ (l : List ℕ). Lies l no_loops box.x a) lasts lies.first in
        let second = subst (λ (l : List ℕ). Lies l no_loops box.y b) lasts lies.second in
        let inside : box_points boxes.funcs k i j ≡ true =
        rw box_is (and_from (nat_lt i (extent box.x)) (nat_lt j (extent box.y)) (lt-ltb i (extent box.x) (offset_within box.x a first)) (lt-ltb j (extent box.y)
        (offset_within box.y b second))) in
        let lies_at : found inner (sources.Func k) a b ≡ buffers k i j = rw (c.there, (c.is now).0, (c.is now).1) refl in
        let held_so : held boxes.funcs (pixels pipeline.funcs inputs func_index) k i j ≡ pixels pipeline.funcs inputs func_index k (word.add (word_at box.x.low) i)
        (word.add (word_at box.y.low) j) = rw box_is refl in
        lies_at ∙ hold k i j (λ e. omega (arith, e, earlier)) public_so inside ∙ held_so
        ∙ ap (λ (n : ℕ). pixels pipeline.funcs inputs func_index k n (word.add (word_at box.y.low) j)) (offset_back box.x a first)
        ∙ ap (λ (n : ℕ). pixels pipeline.funcs inputs func_index k a n) (offset_back box.y b second)

    lasts_at : (k : ℕ) (sought : FuncPlacement) → IsReached schedule.standings k sought → sought.place ≡ places.Root → (box : SourceBox)
        → slice_get boxes.funcs k ≡ Some (Some box) → box.lasts ≡ no_loops
    lasts_at k sought there root box box_is =
        (boxes_are_produced pipeline schedule boxes is k sought there.standing there.reached (subst (λ (p : ComputeLevel). IsComputed k p) (sym root) tt) box
        box_is).lasts
        ∙ ap (λ (p : ComputeLevel). lasts_of (consumer_in schedule boxes.funcs p)) root

    -- what is known of points that are read
    record AreRead (list : List Point) : Type 0 where
      funcs : (k : ℕ) (sought : FuncPlacement) → k < func_index → IsReached schedule.standings k sought → sought.place ≡ places.Root
          → AreBoxed no_loops (sources.Func k) (slice_get boxes.funcs k) list
      through : AreReadThrough pipeline schedule.standings func_index (suc func_index) list

    one_found : (s : Source) (a b : ℕ) (list : List Point) → AreRead (record { source = s; x = a; y = b } ∷ list)
        → IsReadThrough pipeline schedule.standings func_index (suc func_index) s
        → same_source s (sources.Func func_index) ≡ false
        → found inner s a b ≡ wanted s a b
    unfolding placed
    one_found (sources.Input k) a b list r through differs = refl
    one_found (sources.Func k) a b list r (unflagged, (few, inl e)) differs = absurd (true≢false (sym (eq-eqb k func_index e) ∙ differs))
    one_found (sources.Func k) a b list r (unflagged, (few, inr through)) differs =
        let w = readers_stand_within pipeline schedule accepted func_index at.standing at.there computed k through in
        let root : w.own.place ≡ places.Root = root_read k w unflagged w.own.place refl in
        by_box w root (slice_get boxes.funcs k) refl (some_before boxes.funcs func_index k (Some source_box) at.box_is w.before) ((r.funcs k w.own w.before w.there root).0
        (same_self k))
      where
        by_box : (w : IsReadWithin schedule func_index k) → w.own.place ≡ places.Root → (answer : Option (Option SourceBox)) → slice_get boxes.funcs k ≡ answer
            → IsSome answer → IsBoxed no_loops answer a b
            → found inner (sources.Func k) a b ≡ pixels pipeline.funcs inputs func_index k a b
        by_box w root None e some lies = let wrong = some.is in absurd cc
        by_box w root (Some None) e some lies = absurd lies
        by_box w root (Some (Some box)) e some lies =
            found_in k a b box w.own w.there.standing root e lies (lasts_at k w.own w.there root box e) (roots_are_shared pipeline schedule accepted k w.own
            w.there root) w.before

    all_found : (list : List Point) → AreRead list → AllByRecursion (λ point. same_source point.source (sources.Func func_index) ≡ false
        → found inner point.source point.x point.y ≡ wanted point.source point.x point.y) list
    all_found [] r = tt
    all_found (point ∷ list) r = (
      λ e. one_found point.source point.x point.y list r r.through.0 e,
      all_found list (record { funcs = λ k sought earlier there root. (r.funcs k sought earlier there root).1; through = r.through.1 }),
    )

    module _ (number x y : ℕ) (few : number < points update) (lies : LiesIn no_loops source_box x y) (reads : Reads) (words : AnswerWords pipeline.inputs reads) where
      lasts : source_box.lasts ≡ no_loops
      lasts = no_lasts pipeline schedule boxes func_index func plan source_box accepted is at

      below : Below no_loops source_box.lasts
      below = subst (λ (l : List ℕ). Below no_loops l) (sym lasts) no_below

      are_read : AreRead (update_points pipeline schedule reads func_index update number x y)
      are_read = record {
        funcs = λ k sought earlier there root.
            let near = points_are_near source_box (is_box pipeline schedule boxes func_index func plan source_box accepted is at) no_loops below x y lies in
            update_reads_of_funcs_lie pipeline schedule boxes rules is func_index func source_box at.func_is at.box_is number_at update it.update_is k sought earlier
            there.standing there.reached
            (subst (λ (p : ComputeLevel). IsComputed k p) (sym root) tt) None (ap (λ (p : ComputeLevel). consumer_in schedule boxes.funcs p) root) source_box refl reads words
            no_loops below no_below x y lies near.0 near.1 number few;
        through = update_points_are_read_through pipeline schedule rules func_index func at.func_is plain number_at update it.update_is reads number x y;
      }

      pub reads_found : AllByRecursion (λ point. same_source point.source (sources.Func func_index) ≡ false → found inner point.source point.x point.y
          ≡ wanted point.source point.x point.y)
          (update_points pipeline schedule reads func_index update number x y)
      reads_found = all_found (update_points pipeline schedule reads func_index update number x y) are_read

  pub reads_pixels : ReadsPixels pipeline schedule corners func_index update no_loops source_box inputs before buffers
  reads_pixels inner number x y few lies plane words = reads_found inner number x y few lies
      (reads_of inputs (with_plane func_index plane (pixels pipeline.funcs inputs func_index))) words
