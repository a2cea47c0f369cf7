-- Visits of an update, one after the other: they leave what is after it in the slices that they go through.
use Rattle.std.proofs.Common.{◌≡◌, ℕ, suc, ◌+◌, ◌<◌, Bool, true, false, List, [], ◌∷◌, map, Option, Some, refl, sym, ap, ◌∙◌, arith}
use Rattle.std.specs.Prelude.{◌||◌, slice_get, Ok}
use Rattle.std.specs.List.{AllByRecursion, list_any}
use Rattle.halide_pipeline.specs.declared.definitions.Func.{Func}
use Rattle.halide_pipeline.specs.declared.definitions.Update.{Update}
use Rattle.halide_pipeline.specs.declared.expressions.Variable.TheVariants as variables
use Rattle.halide_pipeline.specs.Pipelines.{Pipeline}
use Rattle.halide_pipeline.specs.WellFormed.{IsWellFormed}
use Rattle.halide_pipeline.specs.Words as word
use Rattle.halide_pipeline.specs.Pixel.{Plane, Planes, reads_of, pixels, stage, points, after, after_all}
use Rattle.schedule_lines.specs.declared.stages.LoopId.TheVariants as ids
use Rattle.schedule.specs.declared.schedules.Schedule.{Schedule}
use Rattle.schedule.specs.declared.placements.FuncPlacement.{FuncPlacement}
use Rattle.schedule.specs.Accepted.{IsAccepted}
use Rattle.schedule.specs.Uses.{IsReached}
use Rattle.schedule_loops.specs.declared.extents.Extents.{Extents}
use Rattle.schedule_loops.specs.Visits as loops
use Rattle.schedule_loops.specs.Stages.{IsVisitOf}
use Rattle.schedule_loops.specs.Visits.{Visit, visit_of, slice, rising}
use Rattle.bounds_ranges.specs.Laws.{Below, AnswerWords}
use Rattle.bounds.specs.declared.boxes.SourceBox.{SourceBox}
use Rattle.bounds.specs.declared.verdict.Boxes.{Boxes}
use Rattle.bounds.specs.Boxes.{lasts_of}
use Rattle.bounds.specs.Verdict.{inferred}
use Rattle.bounds_laws.specs.Laws.{IsComputed}
use Rattle.bounds_laws.proofs.Callers.{or_right}
use Rattle.bounds_laws.proofs.PutIn.{flags}
use Rattle.loop_ir.specs.declared.statements.Stmt.{Stmt}
use Rattle.loop_ir.specs.Counters.{Values}
use Rattle.loop_ir.specs.Stores.{Trace, trace}
use Rattle.lowering_nests.specs.Nests.{put_loops, all}
use Rattle.lowering_expressions.specs.declared.calls.Corner.{Corner}
use Rattle.lowering.specs.Planes.{has_point, box_points}
use Rattle.bounds.specs.Extents.{BoxCorner, update_extents}
use Rattle.bounds.specs.Stages.{named_point, is_point}
use Rattle.lowering.specs.Updates.{StoresUpdate, HitsUpdate, is_visited, IsCornerAt, IsBegin, ReadsPixels, consumer_at, produced_iterations, stage_from}
use Rattle.lowering.proofs.Lists.{any_gives, all_map}
use Rattle.lowering.proofs.Slices.{Goes, Gone, Marks, slices_go, slices_mark}
use Rattle.lowering.proofs.UpdateSteps.{ReadsOwn, from_begin, column_in, row_in, step, goes, marks, named_inside}

-- ---- lists

pub all_and : {A : Type 0} (P Q : A → Type 0) (xs : List A) → AllByRecursion P xs → AllByRecursion Q xs → AllByRecursion (λ x. P x × Q x) xs
all_and P Q [] p q = tt
all_and P Q (x ∷ xs) p q = ((p.0, q.0), all_and P Q xs p.1 q.1)

pub all_so : {A : Type 0} (P Q : A → Type 0) → ((x : A) → P x → Q x) → (xs : List A) → AllByRecursion P xs → AllByRecursion Q xs
all_so P Q next [] p = tt
all_so P Q next (x ∷ xs) p = (next x p.0, all_so P Q next xs p.1)

-- whatever test a member passes, one of the list does
abbrev IsIn : {A : Type 0} → List A → A → Type 0
IsIn {A} xs x = (test : A → Bool) → test x ≡ true → list_any test xs ≡ true

or_here : (a b : Bool) → a ≡ true → (a || b) ≡ true
or_here true b e = refl
or_here false b e = absurd cc

pub members : {A : Type 0} (xs : List A) → AllByRecursion (IsIn xs) xs
members [] = tt
members {A} (x ∷ xs) = (
  λ test e. or_here (test x) (list_any test xs) e,
  all_so (IsIn xs) (IsIn (x ∷ xs)) (λ y is test e. or_right (test x) (list_any test xs) (is test e)) xs (members xs),
)

module _ (pipeline : Pipeline) (schedule : Schedule) (boxes : Boxes) (rules : IsWellFormed pipeline) (accepted : IsAccepted pipeline schedule)
    (is : inferred pipeline schedule ≡ Ok boxes)
    (func_index : ℕ) (func : Func) (source_box : SourceBox) (func_is : slice_get pipeline.funcs func_index ≡ Some func) (box_is : slice_get boxes.funcs func_index ≡ Some (Some source_box))
    (placement : FuncPlacement) (there : IsReached schedule.standings func_index placement) (computed : IsComputed func_index placement.place)
    (at : ℕ) (update : Update) (update_is : slice_get func.updates at ≡ Some update)
    (inputs : Planes) (begun : AnswerWords pipeline.inputs (reads_of inputs (pixels pipeline.funcs inputs 0)))
    (iterations : List ℕ) (below : Below (produced_iterations schedule boxes placement iterations) (lasts_of (consumer_at schedule boxes placement)))
    (begin : BoxCorner) (begins : IsBegin (produced_iterations schedule boxes placement iterations) source_box begin)
    (corners : List Corner) (before : Values) (corner : Corner) (corner_is : IsCornerAt func_index before corner begin) (reads_own : ReadsOwn corners func_index before
    inputs begin)
    (store : Stmt) (stores : StoresUpdate corners (flags pipeline schedule) pipeline.funcs func_index corner update
    store)
    (funcs : Planes) (reads_others : ReadsPixels pipeline schedule corners func_index update (produced_iterations schedule boxes placement iterations) source_box inputs before funcs)
    (list : List loops.Values)
    (visits : AllByRecursion (IsVisitOf func (Some update) (update_extents source_box update)) (map (visit_of (update_extents source_box update)) list))
    (reduced : AllByRecursion (λ inner. inner (ids.Whole variables.FirstReduction) < update.first.extent) list)
    (inside : ℕ → ℕ → Bool) (in_box : (i j : ℕ) → inside i j ≡ true → has_point (Some source_box) i j ≡ true)
    (closed : AllByRecursion (λ visit. (i j : ℕ) → has_point (Some source_box) i j ≡ true
    → is_visited update i j visit ≡ true
    → inside i j ≡ true) (map (visit_of (update_extents source_box update)) list)) where
  abbrev extents : Extents
  extents = update_extents source_box update

  abbrev stands_at : ℕ → Plane
  stands_at = from_begin pipeline schedule boxes rules accepted is func_index func source_box func_is box_is placement there computed at update update_is inputs begun iterations
      below begin begins corners before corner corner_is reads_own store stores funcs reads_others inside

  abbrev columns : ℕ → ℕ
  columns = column_in pipeline schedule boxes rules accepted is func_index func source_box func_is box_is placement there computed at update update_is inputs begun iterations
      below begin begins corners before corner corner_is reads_own store stores funcs reads_others inside

  abbrev rows : ℕ → ℕ
  rows = row_in pipeline schedule boxes rules accepted is func_index func source_box func_is box_is placement there computed at update update_is inputs begun iterations below
      begin begins corners before corner corner_is reads_own store stores funcs reads_others inside

  abbrev pub steps : loops.Values → Planes → Planes
  steps = step pipeline schedule boxes rules accepted is func_index func source_box func_is box_is placement there computed at update update_is inputs begun iterations below
      begin begins corners before corner corner_is reads_own store stores funcs reads_others inside

  abbrev IsGone : loops.Values → Type 0
  IsGone inner = Goes func_index funcs inside columns rows stands_at (visit_of extents inner) (steps inner)

  abbrev Closed : Visit → Type 0
  Closed visit = (i j : ℕ) → has_point (Some source_box) i j ≡ true → is_visited update i j visit ≡ true
      → inside i j ≡ true

  abbrev Known : loops.Values → Type 0
  Known inner = (IsVisitOf func (Some update) extents (visit_of extents inner) × Closed (visit_of extents inner))
      × (inner (ids.Whole variables.FirstReduction) < update.first.extent)

  all_known : AllByRecursion Known list
  all_known =
      all_and (λ inner. IsVisitOf func (Some update) extents (visit_of extents inner) × Closed (visit_of extents inner))
      (λ inner. inner (ids.Whole variables.FirstReduction) < update.first.extent) list
      (all_map (λ visit. IsVisitOf func (Some update) extents visit × Closed visit) (λ inner. IsVisitOf func (Some update) extents (visit_of extents inner)
      × Closed (visit_of extents inner)) (visit_of extents) (λ inner p. p) list
      (all_and (IsVisitOf func (Some update) extents) Closed (map (visit_of extents) list) visits closed))
      reduced

  all_go : AllByRecursion IsGone list
  all_go =
      all_so Known IsGone
      (λ inner p.
      goes pipeline schedule boxes rules accepted is func_index func source_box func_is box_is placement there computed at update update_is inputs begun iterations below begin
      begins corners before corner corner_is reads_own store stores funcs reads_others inside
      inner p.0.0 p.1 p.0.1 in_box)
      list all_known

  -- the left side names the point at the visit
  abbrev pub is_hit : ℕ → ℕ → loops.Values → Bool
  is_hit x y inner = is_point x y (named_point (reads_of inputs (pixels pipeline.funcs inputs func_index)) begin update (visit_of extents inner))

  pub names_inside : (x y : ℕ) → list_any (is_hit x y) list ≡ true → inside x y ≡ true
  names_inside x y e =
      any_gives Known (inside x y ≡ true) (is_hit x y)
      (λ inner p hit.
      named_inside pipeline schedule boxes rules accepted is func_index func source_box func_is box_is placement there computed at update update_is inputs begun iterations below
      begin begins corners before corner corner_is reads_own store stores funcs
      reads_others inside inner p.0.0 p.1 p.0.1 in_box x y hit)
      list all_known e

  -- before the first point
  at_first : (i j : ℕ) → stage_from pipeline inputs func_index func begin at i j ≡ stands_at 0 i j
  unfolding after
  at_first i j = refl

  -- after the last one
  at_last : (i j : ℕ) → stands_at (points update) i j ≡ stage_from pipeline inputs func_index func begin (suc at) i j
  unfolding stage
  at_last i j =
      ap (λ (found_update : Option Update). after_all func_index found_update inputs (pixels pipeline.funcs inputs func_index) (stage func_index func inputs (pixels pipeline.funcs inputs
      func_index) at) (word.add begin.x i) (word.add begin.y j)) (sym update_is)

  module _ (in_order : (i j : ℕ) → inside i j ≡ true → slice (columns i) (rows j) (map (visit_of extents) list) ≡ rising (columns i) (rows j) 0 (points update))
      (holds : (i j : ℕ) → inside i j ≡ true → funcs func_index i j ≡ stage_from pipeline inputs func_index func begin at i j) where
    gone : Gone func_index funcs inside columns rows stands_at (λ x y. 0) (λ x y. points update) funcs
        (all steps list funcs)
    gone =
        slices_go func_index funcs inside columns rows stands_at (visit_of extents) steps list (λ x y. 0) (λ x y. points update) funcs all_go in_order
        (λ k i j other. refl)
        (λ i j e. holds i j e ∙ at_first i j)

    pub leaves : (i j : ℕ) → inside i j ≡ true → all steps list funcs func_index i j ≡ stage_from pipeline inputs func_index func begin (suc at) i j
    leaves i j e =
        let none_before : 0 + points update ≡ points update = omega arith in
        gone.does i j e ∙ ap (λ (n : ℕ). stands_at n i j) none_before ∙ at_last i j

    pub stays : (other i j : ℕ) → (other ≡ func_index → inside i j ≡ false) → all steps list funcs other i j ≡ funcs other i j
    stays = gone.keeps

    -- ---- beside a trace

    module _ (hits : HitsUpdate corners (flags pipeline schedule) pipeline.funcs func_index corner update store) (x y : ℕ) where
      abbrev traced : loops.Values → Trace → Trace
      traced inner = trace (box_points boxes.funcs) inputs func_index x y store (put_loops func_index inner before)

      all_mark : AllByRecursion (Marks func_index funcs inside columns rows stands_at (visit_of extents) steps traced (is_hit x y)) list
      all_mark =
          all_so Known (Marks func_index funcs inside columns rows stands_at (visit_of extents) steps traced
          (is_hit x y))
          (λ inner p.
          marks pipeline schedule boxes rules accepted is func_index func source_box func_is box_is placement there computed at update update_is inputs begun iterations below
          begin begins corners before corner corner_is reads_own store stores funcs reads_others
          inside inner p.0.0 p.1 p.0.1 in_box hits x y)
          list all_known

      -- the point is stored at if the left side names it at one of the visits
      pub stores_named : (all traced list (record { funcs = funcs; is_stored = false })).is_stored ≡ list_any (is_hit x y) list
      stores_named =
          slices_mark func_index funcs inside columns rows stands_at (visit_of extents) steps traced (is_hit x y) list (λ i j. 0) (λ i j. points update)
          (record { funcs = funcs; is_stored = false }) all_go all_mark in_order (λ k i j other. refl)
          (λ i j e. holds i j e ∙ at_first i j)
