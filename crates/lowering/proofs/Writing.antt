-- What a store of a pure definition writes under values of the loops.
use Rattle.std.proofs.Common.{◌≡◌, ℕ, ◌%◌, ◌^◌, ◌<◌, ◌≤◌, Bool, true, cond, List, None, refl, sym, ap, subst, ◌∙◌, arith}
use Rattle.std.specs.Prelude.{Ok}
use Rattle.std.proofs.lemmas.Bool.{eq-eqb}
use Rattle.std.proofs.Math.Nat.{mod-eq_of_lt}
use Rattle.halide_pipeline.specs.declared.definitions.Func.{Func}
use Rattle.halide_pipeline.specs.declared.expressions.Variable.{Variable}
use Rattle.halide_pipeline.specs.declared.expressions.Variable.TheVariants as variables
use Rattle.halide_pipeline.specs.Pipelines.{Pipeline}
use Rattle.halide_pipeline.specs.WellFormed.{IsWellFormed}
use Rattle.halide_pipeline.specs.Words as word
use Rattle.halide_pipeline.specs.Pixel.{Plane, Planes, Reads, reads_of, pixels, stage, value, variable, at_point}
use Rattle.halide_pipeline.specs.Points.{Point, Agree, Hold}
use Rattle.schedule_lines.specs.declared.stages.LoopId.TheVariants as ids
use Rattle.schedule.specs.declared.plans.FuncPlan.{FuncPlan}
use Rattle.schedule.specs.declared.schedules.Schedule.{Schedule}
use Rattle.schedule.specs.declared.placements.ComputeLevel.{ComputeLevel}
use Rattle.schedule.specs.Accepted.{IsAccepted}
use Rattle.schedule_loops.specs.declared.extents.Extents.{Extents}
use Rattle.schedule_loops.specs.Visits as loops
use Rattle.schedule_loops.specs.Stages.{IsVisitOf}
use Rattle.schedule_loops.specs.Visits.{visit_of}
use Rattle.bounds_inlining.specs.Inlining.{inlined, flagged}
use Rattle.bounds_inlining.specs.Laws.{seen_variable}
use Rattle.bounds_inlining.specs.Values.{values as valuing, seeing}
use Rattle.bounds_ranges.specs.Laws.{Below}
use Rattle.bounds_weights.specs.Weight.{flags_of}
use Rattle.bounds.specs.declared.boxes.SourceBox.{SourceBox}
use Rattle.bounds.specs.declared.verdict.Boxes.{Boxes}
use Rattle.bounds.specs.Boxes.{IsBox}
use Rattle.bounds.specs.Extents.{extent, extents_of}
use Rattle.bounds.specs.Verdict.{inferred}
use Rattle.bounds_laws.specs.ConsumerLaws.{IsFrom}
use Rattle.bounds_laws.specs.Laws.{LiesIn, IsComputed, pure_points}
use Rattle.bounds_laws.proofs.BoxesProduced.{visits_lie}
use Rattle.loop_ir.specs.declared.statements.Stmt.{Stmt}
use Rattle.loop_ir.specs.Buffers.{Points, put}
use Rattle.loop_ir.specs.Counters.{Values}
use Rattle.loop_ir.specs.Expressions.{linear_value}
use Rattle.loop_ir.specs.Running.{run}
use Rattle.loop_ir.specs.Soundness.{is_sound}
use Rattle.lowering_nests.specs.Nests.{put_loops}
use Rattle.lowering_expressions.specs.Lowering.{placed, place as place_in}
use Rattle.lowering.specs.Corners.{first_of, iterations_for}
use Rattle.lowering.specs.Consuming.{Keeps}
use Rattle.lowering.specs.Planes.{box_points}
use Rattle.lowering.specs.PurePhases.{IsStoreOf, whole_at}
use Rattle.bounds.specs.Stages.{IsComputedAt}
use Rattle.lowering.proofs.Covered.{parts_of, point_there}
use Rattle.lowering.proofs.Facts.{is_box, few}
use Rattle.lowering.proofs.Offsets.{from_first_on, add_swapped}
use Rattle.lowering.proofs.Painting.{Writes}
use Rattle.lowering.proofs.Values.{value_is}

put_same : (points : Points) (func_index : ℕ) (funcs : Planes) (f : ℕ → ℕ → ℕ) (a x b y : ℕ) → a ≡ x → b ≡ y
    → put points func_index a b (f a b) funcs ≡ put points func_index x y (f x y) funcs
put_same points func_index funcs f a x b y e g = ap (λ (n : ℕ). put points func_index n b (f n b) funcs) e ∙ ap (λ (n : ℕ). put points func_index x n (f x n) funcs) g

module _ (pipeline : Pipeline) (schedule : Schedule) (boxes : Boxes) (rules : IsWellFormed pipeline) (accepted : IsAccepted pipeline schedule)
    (is : inferred pipeline schedule ≡ Ok boxes)
    (placed_at : ComputeLevel) (func_index : ℕ) (func : Func) (plan : FuncPlan) (source_box : SourceBox) (here : IsComputed func_index placed_at) (at : IsComputedAt pipeline schedule
    boxes placed_at func_index func plan source_box)
    (store : Stmt) (store_of : IsStoreOf pipeline schedule boxes placed_at func_index func source_box store)
    (inputs : Planes)
    (values : List ℕ) (below : Below values source_box.lasts) (counters : Values)
    (iterations_same : (inner : loops.Values) → iterations_for schedule.funcs placed_at (put_loops func_index inner counters) ≡ values) where
  abbrev extents : Extents
  extents = extents_of source_box

  abbrev points : ℕ → ℕ → ℕ → Bool
  points = box_points boxes.funcs

  abbrev wanted : Reads
  wanted = reads_of inputs (pixels pipeline.funcs inputs func_index)

  -- the pixels of the pure definition, from where the box begins on
  abbrev pub plane : Plane
  plane x y = stage func_index func inputs (pixels pipeline.funcs inputs func_index) 0 (word.add (first_of source_box.x values) x) (word.add (first_of source_box.y values) y)

  abbrev pub step : loops.Values → Planes → Planes
  step inner = run points inputs store (put_loops func_index inner counters)

  abbrev pub x_of : loops.Values → ℕ
  x_of inner = inner (ids.Whole variables.FirstArgument)

  abbrev pub y_of : loops.Values → ℕ
  y_of inner = inner (ids.Whole variables.SecondArgument)

  abbrev pub across : loops.Values → ℕ
  across inner = word.add (x_of inner) (first_of source_box.x values)

  abbrev pub down : loops.Values → ℕ
  down inner = word.add (y_of inner) (first_of source_box.y values)

  box_facts : IsBox source_box
  box_facts = is_box pipeline schedule boxes func_index func plan source_box accepted is placed_at here at

  stands_at : (inner : loops.Values) (v : Variable) (most : ℕ) → most ≤ 2 ^ 20 → inner (ids.Whole v) < most → whole_at (put_loops func_index inner counters) func_index v
      ≡ inner (ids.Whole v)
  stands_at inner v most l e =
      ap (λ (b : Bool). cond b (inner (ids.Whole v)) (counters (record { func = func_index; id = ids.Whole v })) % 2 ^ 32) (eq-eqb func_index func_index refl)
      ∙ mod-eq_of_lt {n = inner (ids.Whole v)} {m = 2 ^ 32} (omega (arith, l, e))

  module _ (inner : loops.Values) (v : IsVisitOf func None extents (visit_of extents inner)) where
    parts : (x_of inner < extent source_box.x) × (y_of inner < extent source_box.y)
    parts = parts_of pipeline schedule boxes rules accepted is placed_at func_index func plan source_box here at (visit_of extents inner) v

    pub first_from : IsFrom values source_box.x (x_of inner) (across inner)
    first_from = from_first_on source_box.lasts values source_box.x (x_of inner) box_facts.x below parts.0

    pub second_from : IsFrom values source_box.y (y_of inner) (down inner)
    second_from = from_first_on source_box.lasts values source_box.y (y_of inner) box_facts.y below parts.1

    pub lies : LiesIn values source_box (across inner) (down inner)
    lies = visits_lie func None source_box box_facts values below extents refl refl (visit_of extents inner) v (across inner) (down inner) first_from second_from

    pub at_x : whole_at (put_loops func_index inner counters) func_index variables.FirstArgument ≡ x_of inner
    at_x = stands_at inner variables.FirstArgument (extent source_box.x) (few pipeline schedule boxes func_index func plan source_box accepted is placed_at here at
        variables.FirstArgument) parts.0

    pub at_y : whole_at (put_loops func_index inner counters) func_index variables.SecondArgument ≡ y_of inner
    at_y = stands_at inner variables.SecondArgument (extent source_box.y) (few pipeline schedule boxes func_index func plan source_box accepted is placed_at here at
        variables.SecondArgument) parts.1

    pub corner_x : linear_value (put_loops func_index inner counters) store_of.corner.x ≡ first_of source_box.x values
    corner_x = (store_of.is_corner (put_loops func_index inner counters)).0 ∙ ap (first_of source_box.x)
        (iterations_same inner)

    pub corner_y : linear_value (put_loops func_index inner counters) store_of.corner.y ≡ first_of source_box.y values
    corner_y = (store_of.is_corner (put_loops func_index inner counters)).1 ∙ ap (first_of source_box.y)
        (iterations_same inner)

    pure_is : value wanted (at_point (across inner) (down inner)) func.pure ≡ plane (x_of inner) (y_of inner)
    unfolding stage
    pure_is =
        ap (λ (n : ℕ). value wanted (at_point n (down inner)) func.pure) (add_swapped (x_of inner) (first_of source_box.x values))
        ∙ ap (λ (n : ℕ). value wanted (at_point (word.add (first_of source_box.x values) (x_of inner)) n) func.pure) (add_swapped (y_of inner) (first_of source_box.y values))

    module _ (funcs : Planes)
        (agree : Agree wanted (placed store_of.corners (put_loops func_index inner counters) (reads_of inputs funcs)) (pure_points pipeline schedule wanted func_index
        func (across inner) (down inner))) where
      abbrev found : Reads
      found = placed store_of.corners (put_loops func_index inner counters) (reads_of inputs funcs)

      abbrev stored : ℕ → ℕ → ℕ
      stored a b = inlined (valuing found) (flagged (flags_of schedule.standings)) pipeline.funcs func_index (variable (at_point a b)) func.pure

      pub does : step inner funcs ≡ put points func_index (x_of inner) (y_of inner) (plane (x_of inner) (y_of inner))
          funcs
      does =
          store_of.stores points inputs (put_loops func_index inner counters) funcs
          ∙ put_same points func_index funcs (λ a b. stored (word.add a (linear_value (put_loops func_index inner counters) store_of.corner.x))
          (word.add b (linear_value (put_loops func_index inner counters) store_of.corner.y)))
          (whole_at (put_loops func_index inner counters) func_index variables.FirstArgument) (x_of inner) (whole_at (put_loops func_index inner counters) func_index
          variables.SecondArgument) (y_of inner) at_x at_y
          ∙ ap (λ (n : ℕ). put points func_index (x_of inner) (y_of inner) (stored (word.add (x_of inner) n)
          (word.add (y_of inner) (linear_value (put_loops func_index inner counters) store_of.corner.y))) funcs)
          corner_x
          ∙ ap (λ (n : ℕ). put points func_index (x_of inner) (y_of inner) (stored (across inner) (word.add (y_of inner) n)) funcs) corner_y
          ∙ ap (λ (n : ℕ). put points func_index (x_of inner) (y_of inner) n funcs)
          (value_is pipeline schedule boxes rules accepted is placed_at func_index func plan source_box here at inputs found (across inner) (down inner) agree ∙ pure_is)

    module _ (Ready : Planes → Type 0) (stays : (funcs after : Planes) → Keeps func_index funcs after → Ready funcs → Ready after)
        (agrees : (funcs : Planes) → Ready funcs → Agree wanted (placed store_of.corners (put_loops func_index inner counters) (reads_of inputs funcs))
        (pure_points pipeline schedule wanted func_index func (across inner) (down inner))) where
      pub writes : Writes points func_index plane Ready stays x_of y_of step inner
      writes = record {
        there = point_there pipeline schedule boxes rules accepted is placed_at func_index func plan source_box here at (x_of inner) (y_of inner) parts.0 parts.1;
        does = λ funcs ready. does funcs (agrees funcs ready);
      }

    -- ---- what it touches

    module _ (reads : Reads) (written : Points) (loaded : Point → Bool) where
      abbrev answers : Reads
      answers = placed store_of.corners (put_loops func_index inner counters) reads

      abbrev Loads : ℕ → ℕ → Type 0
      Loads a b = Hold (λ point. loaded (place_in store_of.corners (put_loops func_index inner counters) point)) (inlined (seeing answers)
          (flagged (flags_of schedule.standings)) pipeline.funcs func_index (seen_variable (at_point a b))
          func.pure).points

      pub sound : written func_index (x_of inner) (y_of inner) ≡ true → Hold (λ point. loaded (place_in store_of.corners (put_loops func_index inner counters) point))
          (pure_points pipeline schedule answers func_index func (across inner) (down inner))
          → is_sound reads written loaded store (put_loops func_index inner counters) ≡ true
      sound writes all_loaded =
          let first = ap (λ (n : ℕ). word.add n (linear_value (put_loops func_index inner counters) store_of.corner.x)) at_x ∙ ap (word.add (x_of inner)) corner_x in
          let second = ap (λ (n : ℕ). word.add n (linear_value (put_loops func_index inner counters) store_of.corner.y))
          at_y
          ∙ ap (word.add (y_of inner)) corner_y in
          store_of.sound reads written loaded (put_loops func_index inner counters)
          (ap (λ (n : ℕ). written func_index n (whole_at (put_loops func_index inner counters) func_index variables.SecondArgument)) at_x
          ∙ ap (written func_index (x_of inner)) at_y ∙ writes)
          (subst (λ (n : ℕ). Loads n (word.add (whole_at (put_loops func_index inner counters) func_index variables.SecondArgument)
          (linear_value (put_loops func_index inner counters) store_of.corner.y))) (sym first)
          (subst (Loads (across inner)) (sym second) all_loaded))
