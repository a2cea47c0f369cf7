-- One visit of an update takes its slice one further.
use Rattle.std.proofs.Common.{◌≡◌, ℕ, suc, ◌^◌, ◌<◌, ◌≤◌, Bool, true, false, cond, List, [], ◌∷◌, Option, Some, None, refl, sym, ap, subst, ◌∙◌, arith}
use Rattle.std.proofs.Common.{true≢false}
use Rattle.std.specs.Prelude.{◌&&◌, ◌==◌, ◌||◌, nat_lt, slice_get, Ok}
use Rattle.std.specs.List.{AllByRecursion}
use Rattle.std.proofs.lemmas.Bool.{and_parts, and_from, ltb-true, eq-eqb, eqb-true}
use Rattle.halide_pipeline.specs.declared.definitions.Func.{Func}
use Rattle.halide_pipeline.specs.declared.definitions.Update.{Update}
use Rattle.halide_pipeline.specs.declared.expressions.Source.{Source}
use Rattle.halide_pipeline.specs.declared.expressions.Source.TheVariants as sources
use Rattle.halide_pipeline.specs.declared.expressions.Variable.TheVariants as variables
use Rattle.halide_pipeline.specs.WellFormed.{is_first_in_place, is_second_in_place, IsWellFormed}
use Rattle.halide_pipeline.specs.Pipelines.{Pipeline}
use Rattle.halide_pipeline.specs.Words as word
use Rattle.halide_pipeline.specs.declared.environments.Environment.{Environment}
use Rattle.halide_pipeline.specs.Pixel.{Plane, Planes, Reads, variable, reads_of, pixels, points, at_reduction}
use Rattle.halide_pipeline.specs.Points.{Point, Agree}
use Rattle.schedule_lines.specs.declared.stages.LoopId.TheVariants as ids
use Rattle.schedule.specs.declared.schedules.Schedule.{Schedule}
use Rattle.schedule.specs.declared.placements.FuncPlacement.{FuncPlacement}
use Rattle.schedule.specs.Accepted.{IsAccepted}
use Rattle.schedule.specs.Uses.{IsReached}
use Rattle.schedule_loops.specs.declared.extents.Extents.{Extents}
use Rattle.schedule_loops.specs.Visits as loops
use Rattle.schedule_loops.specs.Stages.{IsVisitOf}
use Rattle.schedule_loops.specs.Visits.{Visit, visit_of}
use Rattle.bounds_inlining.specs.Inlining.{inlined}
use Rattle.bounds_inlining.specs.Values.{values as valuing}
use Rattle.bounds_ranges.specs.Laws.{Below, AnswerWords}
use Rattle.bounds.specs.declared.boxes.SourceBox.{SourceBox}
use Rattle.bounds.specs.declared.verdict.Boxes.{Boxes}
use Rattle.bounds.specs.Boxes.{lasts_of, same_source}
use Rattle.bounds.specs.Extents.{box_in, extent, update_extents, BoxCorner}
use Rattle.bounds.specs.Verdict.{inferred}
use Rattle.bounds_laws.specs.ConsumerLaws.{IsProduced, IsInPlace}
use Rattle.bounds_laws.specs.Laws.{LiesIn, AreBoxed, IsNear, IsComputed, update_points}
use Rattle.bounds_laws.proofs.OwnPoints.{own_points_lie}
use Rattle.bounds_laws.proofs.PutIn.{flags}
use Rattle.bounds_laws.proofs.StayingReads.{own_reads_stay}
use Rattle.loop_ir.specs.declared.statements.Stmt.{Stmt}
use Rattle.loop_ir.specs.Buffers.{Points, put}
use Rattle.loop_ir.specs.Counters.{Values}
use Rattle.loop_ir.specs.Expressions.{linear_value}
use Rattle.loop_ir.specs.Running.{run}
use Rattle.loop_ir.specs.Stores.{Trace, trace}
use Rattle.loop_ir.proofs.Stored.{traces_follow_runs}
use Rattle.lowering_nests.specs.Nests.{put_loops}
use Rattle.lowering_expressions.specs.declared.calls.Corner.{Corner}
use Rattle.lowering_expressions.specs.Lowering.{placed}
use Rattle.lowering.specs.Planes.{has_point, box_points}
use Rattle.bounds.specs.Stages.{named_point, is_point}
use Rattle.lowering.specs.Updates.{StoresUpdate, HitsUpdate, index_of, visited_point, in_place, is_visited, IsCornerAt, IsBegin, ReadsPixels, consumer_at}
use Rattle.lowering.specs.Updates.{produced_iterations}
use Rattle.lowering.proofs.AtVisit as visiting
use Rattle.lowering.proofs.Begins.{back_on, same_test}
use Rattle.lowering.proofs.Offsets.{add_swapped}
use Rattle.lowering.proofs.Painting.{put_there, put_other}
use Rattle.lowering.proofs.Slices.{Goes, HoldsAt, Others}
use Rattle.lowering.proofs.UpdateStoring.{put_as}
use Rattle.lowering.proofs.UpdateMeaning.{stands, wanted, wanted_words, other_answers, own_answers, column, row, right, of_target, column_found, row_found}
use Rattle.lowering.proofs.UpdateMeaning.{right_found, one_more}

-- The Func's own buffer is read from where its box begins.
abbrev pub ReadsOwn : List Corner → ℕ → Values → Planes → BoxCorner → Type 0
ReadsOwn corners func_index before inputs begin = (inner : loops.Values) (buffers : Planes) (a b : ℕ)
    → placed corners (put_loops func_index inner before) (reads_of inputs buffers) (sources.Func func_index) a b ≡ buffers func_index (word.subtract a begin.x)
    (word.subtract b begin.y)

module _ (pipeline : Pipeline) (schedule : Schedule) (boxes : Boxes) (rules : IsWellFormed pipeline) (accepted : IsAccepted pipeline schedule)
    (is : inferred pipeline schedule ≡ Ok boxes)
    (func_index : ℕ) (func : Func) (source_box : SourceBox) (func_is : slice_get pipeline.funcs func_index ≡ Some func) (box_is : slice_get boxes.funcs func_index ≡ Some (Some source_box))
    (placement : FuncPlacement) (there : IsReached schedule.standings func_index placement) (computed : IsComputed func_index placement.place)
    (at : ℕ) (update : Update) (update_is : slice_get func.updates at ≡ Some update)
    (inputs : Planes) (begun : AnswerWords pipeline.inputs (reads_of inputs (pixels pipeline.funcs inputs 0)))
    (iterations : List ℕ) (below : Below (produced_iterations schedule boxes placement iterations) (lasts_of (consumer_at schedule boxes placement)))
    (begin : BoxCorner) (begins : IsBegin (produced_iterations schedule boxes placement iterations) source_box begin)
    (corners : List Corner) (before : Values) (corner : Corner) (corner_is : IsCornerAt func_index before corner begin) (reads_own : ReadsOwn corners func_index before
    inputs begin)
    (store : Stmt) (stores : StoresUpdate corners (flags pipeline schedule) pipeline.funcs func_index corner update
    store)
    (funcs0 : Planes) (reads_others : ReadsPixels pipeline schedule corners func_index update (produced_iterations schedule boxes placement iterations) source_box inputs before
    funcs0)
    (inside : ℕ → ℕ → Bool) where
  abbrev values : List ℕ
  values = produced_iterations schedule boxes placement iterations

  abbrev extents : Extents
  extents = update_extents source_box update

  abbrev boxed : Points
  boxed = box_points boxes.funcs

  abbrev standing_at : ℕ → Plane
  standing_at = stands pipeline schedule rules accepted func_index func func_is placement there computed at update update_is inputs begun

  abbrev answers : ℕ → Reads
  answers = wanted pipeline schedule rules accepted func_index func func_is placement there computed at update update_is inputs begun

  produced : IsProduced (consumer_at schedule boxes placement) source_box
  produced = visiting.produced pipeline schedule boxes rules is func_index func source_box func_is box_is placement there computed at update update_is iterations below begin
      begins before corner corner_is

  below_own : Below values source_box.lasts
  below_own = visiting.below_own pipeline schedule boxes rules is func_index func source_box func_is box_is placement there computed at update update_is iterations below begin
      begins before corner corner_is

  points_own : (i j : ℕ) → boxed func_index i j ≡ has_point (Some source_box) i j
  points_own i j = ap (λ (o : Option (Option SourceBox)). has_point (box_in o) i j) box_is

  -- what is after this many points of each slice, counted from where the box begins
  abbrev pub from_begin : ℕ → Plane
  from_begin number i j = standing_at number (word.add begin.x i) (word.add begin.y j)

  abbrev pub column_in : ℕ → ℕ
  column_in i = in_place (is_first_in_place update) i

  abbrev pub row_in : ℕ → ℕ
  row_in j = in_place (is_second_in_place update) j

  abbrev pub step : loops.Values → Planes → Planes
  step inner = run boxed inputs store (put_loops func_index inner before)

  module _ (inner : loops.Values) (v : IsVisitOf func (Some update) extents (visit_of extents inner)) (reduced : inner (ids.Whole variables.FirstReduction)
      < update.first.extent)
      (closed : (i j : ℕ) → has_point (Some source_box) i j ≡ true → is_visited update i j (visit_of extents inner) ≡ true → inside i j ≡ true)
      (in_box : (i j : ℕ) → inside i j ≡ true → has_point (Some source_box) i j ≡ true) where
    abbrev visit : Visit
    visit = visit_of extents inner

    abbrev now : Values
    now = put_loops func_index inner before

    abbrev x : ℕ
    x = word.add visit.x begin.x

    abbrev y : ℕ
    y = word.add visit.y begin.y

    -- ---- the visit

    wide : extent source_box.x ≤ 2 ^ 32
    wide = visiting.wide pipeline schedule boxes rules is func_index func source_box func_is box_is placement there computed at update update_is iterations below begin begins
        before corner corner_is inner v reduced

    high : extent source_box.y ≤ 2 ^ 32
    high = visiting.high pipeline schedule boxes rules is func_index func source_box func_is box_is placement there computed at update update_is iterations below begin begins
        before corner corner_is inner v reduced

    lies : LiesIn values source_box x y
    lies = visiting.lies pipeline schedule boxes rules is func_index func source_box func_is box_is placement there computed at update update_is iterations below begin begins
        before corner corner_is inner v reduced

    few_points : visit.number < points update
    few_points = visiting.few_points pipeline schedule boxes rules is func_index func source_box func_is box_is placement there computed at update update_is iterations below
        begin begins before corner corner_is inner v reduced

    point_is : visited_point now func_index corner update ≡ at_reduction update visit.number x y
    point_is = visiting.point_is pipeline schedule boxes rules is func_index func source_box func_is box_is placement there computed at update update_is iterations below begin
        begins before corner corner_is inner v reduced

    on_slice : (a b : ℕ) → IsInPlace update x y (record { source = sources.Func func_index; x = a; y = b })
        → is_visited update (word.subtract a begin.x) (word.subtract b begin.y) visit ≡ true
    on_slice = visiting.on_slice pipeline schedule boxes rules is func_index func source_box func_is box_is placement there computed at update update_is iterations below begin
        begins before corner corner_is inner v reduced

    boxed_at : (a b : ℕ) → LiesIn values source_box a b → has_point (Some source_box) (word.subtract a begin.x) (word.subtract b begin.y) ≡ true
    boxed_at = visiting.boxed_at pipeline schedule boxes rules is func_index func source_box func_is box_is placement there computed at update update_is iterations below begin
        begins before corner corner_is inner v reduced

    -- ---- the point that the left side names

    near : IsNear x × IsNear y
    near = visiting.near pipeline schedule boxes rules is func_index func source_box func_is box_is placement there computed at update update_is iterations below begin begins
        before corner corner_is inner v reduced

    wanted_are : AnswerWords pipeline.inputs (answers visit.number)
    wanted_are = wanted_words pipeline schedule rules accepted func_index func func_is placement there computed at update update_is inputs begun visit.number

    abbrev all_read : List Point
    all_read = update_points pipeline schedule (answers visit.number) func_index update visit.number x y

    all_lie : AreBoxed values (sources.Func func_index) (Some (Some source_box)) all_read
    all_lie =
        own_points_lie pipeline schedule boxes rules is func_index func placement func_is there.standing there.reached computed (consumer_at schedule boxes placement)
        refl iterations below source_box box_is at update update_is
        (answers visit.number) wanted_are x y lies.first.word lies.second.word near.0 near.1 visit.number few_points (record {
          first = λ e. lies.first;
          second =
              λ e. lies.second;
        })

    all_stay : AllByRecursion (λ point. same_source point.source (sources.Func func_index) ≡ true → IsInPlace update x y point) all_read
    all_stay = own_reads_stay pipeline schedule rules func_index func func_is at update update_is (answers visit.number) visit.number x y

    abbrev written_column : ℕ
    written_column = column pipeline schedule rules accepted func_index func func_is placement there computed at update update_is inputs begun visit.number x y

    abbrev written_row : ℕ
    written_row = row pipeline schedule rules accepted func_index func func_is placement there computed at update update_is inputs begun visit.number x y

    abbrev written : ℕ
    written = right pipeline schedule rules accepted func_index func func_is placement there computed at update update_is inputs begun visit.number x y

    abbrev i_of : ℕ
    i_of = word.subtract written_column begin.x

    abbrev j_of : ℕ
    j_of = word.subtract written_row begin.y

    target_lies : LiesIn values source_box written_column written_row
    target_lies =
        of_target pipeline schedule rules accepted func_index func func_is placement there computed at update update_is inputs begun visit.number x y
        (λ point. same_source point.source (sources.Func func_index) ≡ true → LiesIn values source_box point.x point.y) all_lie (eq-eqb func_index func_index refl)

    target_stays : IsInPlace update x y (record {
      source = sources.Func func_index;
      x = written_column;
      y = written_row;
    })
    target_stays =
        of_target pipeline schedule rules accepted func_index func func_is placement there computed at update update_is inputs begun visit.number x y
        (λ point. same_source point.source (sources.Func func_index) ≡ true → IsInPlace update x y point) all_stay (eq-eqb func_index func_index refl)

    target_there : has_point (Some source_box) i_of j_of ≡ true
    target_there = boxed_at written_column written_row target_lies

    target_on : is_visited update i_of j_of visit ≡ true
    target_on = on_slice written_column written_row target_stays

    abbrev named : ℕ × ℕ
    named = named_point (reads_of inputs (pixels pipeline.funcs inputs func_index)) begin update visit

    pub named_inside : (p q : ℕ) → is_point p q named ≡ true → inside p q ≡ true
    named_inside p q e =
        let s = and_parts (i_of == p) (j_of == q) e in
        subst (λ (n : ℕ). inside n q ≡ true) (eqb-true i_of p s.0) (subst (λ (n : ℕ). inside i_of n ≡ true) (eqb-true j_of q s.1) (closed i_of j_of target_there
        target_on))

    -- ---- what is read

    module _ (buffers : Planes) (ready : Others func_index funcs0 inside column_in row_in from_begin buffers) (holds : HoldsAt func_index funcs0 inside column_in row_in
        from_begin visit visit.number buffers) where
      abbrev found : Reads
      found = placed corners now (reads_of inputs buffers)

      other_found_by : (corner_of_it : Option Corner) (k a b : ℕ) → (k ≡ func_index → ⊥)
          → slice_get corners k ≡ corner_of_it
          → placed corners now (reads_of inputs buffers) (sources.Func k) a b ≡ placed corners now (reads_of inputs funcs0) (sources.Func k) a b
      unfolding placed
      other_found_by None k a b other e = rw e (ready k a b other)
      other_found_by (Some its) k a b other e = rw e (ready k (word.subtract a (linear_value now its.x)) (word.subtract b (linear_value now its.y)) other)

      other_found : (s : Source) (a b : ℕ) → same_source s (sources.Func func_index) ≡ false → placed corners now (reads_of inputs buffers) s a b
          ≡ placed corners now (reads_of inputs funcs0) s a b
      unfolding placed
      other_found (sources.Input k) a b differs = refl
      other_found (sources.Func k) a b differs = other_found_by (slice_get corners k) k a b (λ e. true≢false (sym (eq-eqb k func_index e) ∙ differs)) refl

      own_found : (a b : ℕ) → LiesIn values source_box a b → IsInPlace update x y (record { source = sources.Func func_index; x = a; y = b })
          → found (sources.Func func_index) a b ≡ standing_at visit.number a b
      own_found a b inside_it stays =
          reads_own inner buffers a b
          ∙ holds (word.subtract a begin.x) (word.subtract b begin.y)
          (closed (word.subtract a begin.x) (word.subtract b begin.y) (boxed_at a b inside_it) (on_slice a b stays)) (on_slice a b stays)
          ∙ ap (λ (n : ℕ). standing_at visit.number n (word.add begin.y (word.subtract b begin.y))) (back_on a begin.x inside_it.first.word begins.x.word)
          ∙ ap (standing_at visit.number a) (back_on b begin.y inside_it.second.word begins.y.word)

      one_agrees : (s : Source) (a b : ℕ) (test : Bool) → same_source s (sources.Func func_index) ≡ test → (test ≡ true → LiesIn values source_box a b)
          → (test ≡ true → IsInPlace update x y (record { source = s; x = a; y = b }))
          → (test ≡ false → placed corners now (reads_of inputs funcs0) s a b ≡ reads_of inputs (pixels pipeline.funcs inputs func_index) s a b)
          → found s a b ≡ answers visit.number s a b
      one_agrees s a b false differs lies_so stays pixels_so =
          other_found s a b differs ∙ pixels_so refl
          ∙ sym (other_answers pipeline schedule rules accepted func_index func func_is placement there computed at update update_is inputs begun visit.number s a b
          differs)
      one_agrees (sources.Input k) a b true same lies_so stays pixels_so = absurd cc
      one_agrees (sources.Func k) a b true same lies_so stays pixels_so =
          let here : k ≡ func_index = eqb-true k func_index same in
          let p = stays refl in
          ap (λ (n : ℕ). found (sources.Func n) a b) here
          ∙ own_found a b (lies_so refl) (record { first = p.first; second = p.second })
          ∙ sym (own_answers pipeline schedule rules accepted func_index func func_is placement there computed at update update_is inputs begun visit.number a b)
          ∙ ap (λ (n : ℕ). answers visit.number (sources.Func n) a b) (sym here)

      all_agree : (list : List Point) → AllByRecursion (λ point. same_source point.source (sources.Func func_index) ≡ true → LiesIn values source_box point.x point.y) list
          → AllByRecursion (λ point. same_source point.source (sources.Func func_index) ≡ true → IsInPlace update x y point) list
          → AllByRecursion
          (λ point. same_source point.source (sources.Func func_index) ≡ false → placed corners now (reads_of inputs funcs0) point.source point.x point.y
          ≡ reads_of inputs (pixels pipeline.funcs inputs func_index) point.source point.x point.y) list
          → Agree (answers visit.number) found list
      all_agree [] lie stay others = tt
      all_agree (point ∷ list) lie stay others = (
        one_agrees point.source point.x point.y (same_source point.source (sources.Func func_index)) refl lie.0 (λ e. let p = stay.0 e in
            record { first = p.first; second = p.second }) others.0,
        all_agree list lie.1 stay.1 others.1,
      )

      agree : Agree (answers visit.number) found all_read
      agree = all_agree all_read all_lie all_stay (reads_others inner visit.number x y few_points lies (standing_at visit.number) wanted_are)

      -- ---- what is written

      abbrev column_now : ℕ
      column_now = word.subtract (inlined (valuing found) (flags pipeline schedule) pipeline.funcs func_index (variable (visited_point now func_index corner update))
          update.left_x) (linear_value now corner.x)

      column_at : column_now ≡ i_of
      column_at =
          ap (λ (p : Environment). word.subtract (inlined (valuing found) (flags pipeline schedule) pipeline.funcs func_index (variable p) update.left_x)
          (linear_value now corner.x)) point_is
          ∙ ap (word.subtract (inlined (valuing found) (flags pipeline schedule) pipeline.funcs func_index (variable (at_reduction update visit.number x y))
          update.left_x)) (corner_is inner).0
          ∙ ap (λ (n : ℕ). word.subtract n begin.x) (column_found pipeline schedule rules accepted func_index func func_is placement there computed at update
          update_is inputs begun visit.number x y found agree)

      abbrev row_now : ℕ
      row_now = word.subtract (index_of (inlined (valuing found) (flags pipeline schedule) pipeline.funcs func_index
          (variable (visited_point now func_index corner update))) update.left_y) (linear_value now corner.y)

      row_at : row_now ≡ j_of
      row_at =
          ap (λ (p : Environment). word.subtract (index_of (inlined (valuing found) (flags pipeline schedule) pipeline.funcs func_index (variable p)) update.left_y)
          (linear_value now corner.y)) point_is
          ∙ ap (word.subtract (index_of (inlined (valuing found) (flags pipeline schedule) pipeline.funcs func_index
          (variable (at_reduction update visit.number x y))) update.left_y)) (corner_is inner).1
          ∙ ap (λ (n : ℕ). word.subtract n begin.y) (row_found pipeline schedule rules accepted func_index func func_is placement there computed at update update_is
          inputs begun visit.number x y found agree)

      ran : step inner buffers ≡ put boxed func_index i_of j_of written buffers
      ran =
          stores boxed inputs now buffers
          ∙ put_as boxed func_index buffers
          (word.subtract (inlined (valuing found) (flags pipeline schedule) pipeline.funcs func_index (variable (visited_point now func_index corner update))
          update.left_x) (linear_value now corner.x))
          (word.subtract (index_of (inlined (valuing found) (flags pipeline schedule) pipeline.funcs func_index (variable (visited_point now func_index corner update)))
          update.left_y) (linear_value now corner.y))
          (inlined (valuing found) (flags pipeline schedule) pipeline.funcs (suc func_index) (variable (visited_point now func_index corner update)) update.right) i_of
          j_of written
          column_at row_at
          (ap (λ (p : Environment). inlined (valuing found) (flags pipeline schedule) pipeline.funcs (suc func_index) (variable p) update.right) point_is
          ∙ right_found pipeline schedule rules accepted func_index func func_is placement there computed at update update_is inputs begun visit.number x y found
          agree)

      there_boxed : boxed func_index i_of j_of ≡ true
      there_boxed = points_own i_of j_of ∙ target_there

      -- at a point of the slice
      module _ (i j : ℕ) (in_it : inside i j ≡ true) (on : is_visited update i j visit ≡ true) where
        box_parts : (nat_lt i (extent source_box.x) ≡ true) × (nat_lt j (extent source_box.y) ≡ true)
        box_parts = and_parts (nat_lt i (extent source_box.x)) (nat_lt j (extent source_box.y)) (in_box i j in_it)

        small_i : i < 2 ^ 32
        small_i = omega (arith, ltb-true i (extent source_box.x) box_parts.0, wide)

        small_j : j < 2 ^ 32
        small_j = omega (arith, ltb-true j (extent source_box.y) box_parts.1, high)

        on_parts : (visit.x == column_in i) ≡ true × (visit.y == row_in j) ≡ true
        on_parts = and_parts (visit.x == column_in i) (visit.y == row_in j) on

        placed_first : is_first_in_place update ≡ true → word.add begin.x i ≡ x
        placed_first e =
            let c : column_in i ≡ i = ap (λ (b : Bool). in_place b i) e in
            add_swapped begin.x i ∙ ap (λ (n : ℕ). word.add n begin.x) (sym (eqb-true visit.x (column_in i) on_parts.0 ∙ c))

        placed_second : is_second_in_place update ≡ true → word.add begin.y j ≡ y
        placed_second e =
            let c : row_in j ≡ j = ap (λ (b : Bool). in_place b j) e in
            add_swapped begin.y j ∙ ap (λ (n : ℕ). word.add n begin.y) (sym (eqb-true visit.y (row_in j) on_parts.1 ∙ c))

        more : from_begin (suc visit.number) i j ≡ cond (written_column == word.add begin.x i && written_row == word.add begin.y j) written
            (from_begin visit.number i j)
        more =
            one_more pipeline schedule rules accepted func_index func func_is placement there computed at update update_is inputs begun visit.number x y
            (word.add begin.x i) (word.add begin.y j) placed_first placed_second

        tests : (written_column == word.add begin.x i && written_row == word.add begin.y j) ≡ (i_of == i && j_of == j)
        tests =
            ap (λ (t : Bool). t && written_row == word.add begin.y j) (same_test written_column begin.x i target_lies.first.word begins.x.word small_i
            (i_of == i) refl)
            ∙ ap (λ (t : Bool). i_of == i && t) (same_test written_row begin.y j target_lies.second.word begins.y.word small_j (j_of == j) refl)

        by_test : (test : Bool) → (i_of == i && j_of == j) ≡ test → put boxed func_index i_of j_of written buffers
            func_index i j
            ≡ cond test written (from_begin visit.number i j)
        by_test true e =
            let p = and_parts (i_of == i) (j_of == j) e in
            ap (λ (n : ℕ). put boxed func_index i_of j_of written buffers func_index n j) (sym (eqb-true i_of i p.0))
            ∙ ap (λ (n : ℕ). put boxed func_index i_of j_of written buffers func_index i_of n)
            (sym (eqb-true j_of j p.1))
            ∙ put_there boxed func_index i_of j_of written buffers there_boxed
        by_test false e = put_other boxed func_index i_of j_of written buffers func_index i j (λ s. e) ∙ holds i j in_it
            on

        goes_on : step inner buffers func_index i j ≡ from_begin (suc visit.number) i j
        goes_on =
            ap (λ (f : Planes). f func_index i j) ran ∙ by_test (i_of == i && j_of == j) refl
            ∙ ap (λ (t : Bool). cond t written (from_begin visit.number i j)) (sym tests) ∙ sym more

      -- at any other
      free_of : (i j : ℕ) → (inside i j && is_visited update i j visit) ≡ false → (i_of == i && j_of == j) ≡ false
      free_of i j free = by_test (i_of == i && j_of == j) refl
        where
          by_test : (test : Bool) → (i_of == i && j_of == j) ≡ test → test ≡ false
          by_test false e = refl
          by_test true e =
              let p = and_parts (i_of == i) (j_of == j) e in
              let all : (inside i_of j_of && is_visited update i_of j_of visit) ≡ true = and_from (inside i_of j_of) (is_visited update i_of j_of visit)
              (closed i_of j_of target_there target_on) target_on in
              let here : (inside i j && is_visited update i j visit) ≡ true =
              subst (λ (n : ℕ). (inside n j && is_visited update n j visit) ≡ true) (eqb-true i_of i p.0)
              (subst (λ (n : ℕ). (inside i_of n && is_visited update i_of n visit) ≡ true) (eqb-true j_of j p.1) all) in
              absurd (true≢false (sym here ∙ free))

      stays_at : (other i j : ℕ) → (other ≡ func_index → (inside i j && is_visited update i j visit) ≡ false) → step inner buffers other i j ≡ buffers other i j
      stays_at other i j free =
          ap (λ (f : Planes). f other i j) ran ∙ put_other boxed func_index i_of j_of written buffers other i j (λ e. free_of i j (free e))

    pub goes : Goes func_index funcs0 inside column_in row_in from_begin visit (step inner)
    goes = record {
      does = λ buffers ready holds i j in_it on. goes_on buffers ready holds i j in_it on;
      keeps = λ buffers ready holds other i j free. stays_at buffers ready holds other i j free;
    }

    -- ---- beside a trace

    module _ (hits : HitsUpdate corners (flags pipeline schedule) pipeline.funcs func_index corner update store) (p q : ℕ) where
      pub marks : (so_far : Trace) → Others func_index funcs0 inside column_in row_in from_begin so_far.funcs
          → HoldsAt func_index funcs0 inside column_in row_in from_begin visit visit.number so_far.funcs
          → ((trace boxed inputs func_index p q store now so_far).funcs ≡ step inner so_far.funcs) × ((trace boxed inputs func_index p q store now so_far).is_stored
          ≡ (so_far.is_stored || is_point p q named))
      marks so_far ready holds = (
        traces_follow_runs boxed inputs func_index p q store now so_far,
        hits boxed inputs func_index p q now so_far
            ∙ ap (λ (b : Bool). so_far.is_stored || (b && (column_now so_far.funcs ready holds == p && row_now so_far.funcs ready holds == q)))
            (eq-eqb func_index func_index refl)
            ∙ ap (λ (n : ℕ). so_far.is_stored || (n == p && row_now so_far.funcs ready holds == q)) (column_at so_far.funcs ready holds)
            ∙ ap (λ (n : ℕ). so_far.is_stored || (i_of == p && n == q)) (row_at so_far.funcs ready holds),
      )
