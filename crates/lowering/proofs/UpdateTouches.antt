-- What the store of an update touches under the visits of its loops.
use Rattle.std.proofs.Common.{◌≡◌, ℕ, suc, ◌<◌, Bool, true, false, List, [], ◌∷◌, ◌++◌, map, Option, Some, None, refl, sym, ap, subst, ◌∙◌}
use Rattle.std.specs.Prelude.{slice_get, Ok}
use Rattle.std.specs.List.{AllByRecursion}
use Rattle.std.proofs.lemmas.Bool.{eq-eqb, eqb-true}
use Rattle.halide_pipeline.specs.declared.definitions.Func.{Func}
use Rattle.halide_pipeline.specs.declared.definitions.Update.{Update}
use Rattle.halide_pipeline.specs.declared.expressions.Expr.{Expr}
use Rattle.halide_pipeline.specs.declared.expressions.Source.{Source}
use Rattle.halide_pipeline.specs.declared.expressions.Source.TheVariants as sources
use Rattle.halide_pipeline.specs.declared.expressions.Variable.TheVariants as variables
use Rattle.halide_pipeline.specs.Pipelines.{Pipeline}
use Rattle.halide_pipeline.specs.WellFormed.{IsWellFormed}
use Rattle.halide_pipeline.specs.Words as word
use Rattle.halide_pipeline.specs.declared.environments.Environment.{Environment}
use Rattle.halide_pipeline.specs.Pixel.{Reads, points, variable, at_reduction}
use Rattle.halide_pipeline.specs.Points.{Point, Hold}
use Rattle.halide_pipeline.proofs.Seeing.{all_parts}
use Rattle.schedule_lines.specs.declared.stages.LoopId.TheVariants as ids
use Rattle.schedule.specs.declared.schedules.Schedule.{Schedule}
use Rattle.schedule.specs.declared.placements.FuncPlacement.{FuncPlacement}
use Rattle.schedule.specs.Uses.{IsReached}
use Rattle.schedule_loops.specs.declared.extents.Extents.{Extents}
use Rattle.schedule_loops.specs.Visits as loops
use Rattle.schedule_loops.specs.Stages.{IsVisitOf}
use Rattle.schedule_loops.specs.Visits.{Visit, visit_of}
use Rattle.bounds_inlining.specs.Inlining.{inlined}
use Rattle.bounds_inlining.specs.Laws.{seen_variable}
use Rattle.bounds_inlining.specs.Values.{values as valuing, seeing}
use Rattle.bounds_inlining.proofs.Seeing.{sees_inlined_values}
use Rattle.bounds_ranges.specs.Laws.{Below, AnswerWords}
use Rattle.bounds.specs.declared.boxes.SourceBox.{SourceBox}
use Rattle.bounds.specs.declared.verdict.Boxes.{Boxes}
use Rattle.bounds.specs.Boxes.{lasts_of, same_source}
use Rattle.bounds.specs.Verdict.{inferred}
use Rattle.bounds_laws.specs.ConsumerLaws.{IsInPlace}
use Rattle.bounds_laws.specs.Laws.{LiesIn, AreBoxed, IsNear, IsComputed, update_points, seen_in, second_seen}
use Rattle.bounds_laws.proofs.OwnPoints.{own_points_lie}
use Rattle.bounds_laws.proofs.PutIn.{flags}
use Rattle.bounds_laws.proofs.StayingReads.{own_reads_stay}
use Rattle.loop_ir.specs.declared.statements.Stmt.{Stmt}
use Rattle.loop_ir.specs.Buffers.{Points}
use Rattle.loop_ir.specs.Counters.{Values}
use Rattle.loop_ir.specs.Expressions.{linear_value}
use Rattle.loop_ir.specs.Soundness.{is_sound}
use Rattle.lowering_nests.specs.Nests.{put_loops}
use Rattle.lowering_expressions.specs.declared.calls.Corner.{Corner}
use Rattle.lowering_expressions.specs.Lowering.{placed, place as place_in}
use Rattle.lowering.specs.Planes.{has_point}
use Rattle.bounds.specs.Extents.{BoxCorner, update_extents}
use Rattle.lowering.specs.Updates.{IsSoundUpdate, LoadsOthers, index_of, points_of_index, visited_point, is_visited, IsCornerAt, IsBegin, consumer_at}
use Rattle.lowering.specs.Updates.{produced_iterations}
use Rattle.lowering.proofs.AtVisit as visiting
use Rattle.lowering.proofs.Lists.{all_map}
use Rattle.lowering.proofs.Loads.{placed_words}
use Rattle.lowering.proofs.UpdateRuns.{all_and, all_so}

module _ (pipeline : Pipeline) (schedule : Schedule) (boxes : Boxes) (rules : IsWellFormed pipeline) (is : inferred pipeline schedule ≡ Ok boxes)
    (func_index : ℕ) (func : Func) (source_box : SourceBox) (func_is : slice_get pipeline.funcs func_index ≡ Some func) (box_is : slice_get boxes.funcs func_index ≡ Some (Some source_box))
    (placement : FuncPlacement) (there : IsReached schedule.standings func_index placement) (computed : IsComputed func_index placement.place)
    (at : ℕ) (update : Update) (update_is : slice_get func.updates at ≡ Some update)
    (iterations : List ℕ) (below : Below (produced_iterations schedule boxes placement iterations) (lasts_of (consumer_at schedule boxes placement)))
    (begin : BoxCorner) (begins : IsBegin (produced_iterations schedule boxes placement iterations) source_box begin)
    (corners : List Corner) (before : Values) (corner : Corner) (corner_is : IsCornerAt func_index before corner begin)
    (store : Stmt) (sound : IsSoundUpdate corners (flags pipeline schedule) pipeline.funcs func_index corner update
    store)
    (reads : Reads) (words : AnswerWords pipeline.inputs reads) (written : Points) (loaded : Point → Bool)
    (own_placed : (inner : loops.Values) (a b : ℕ) → place_in corners (put_loops func_index inner before) (record { source = sources.Func func_index; x = a; y = b })
    ≡ record { source = sources.Func func_index; x = word.subtract a begin.x; y = word.subtract b begin.y })
    (others : LoadsOthers pipeline schedule corners func_index update (produced_iterations schedule boxes placement iterations) source_box reads loaded before)
    (inside : ℕ → ℕ → Bool) (own_writes : (i j : ℕ) → inside i j ≡ true → written func_index i j ≡ true)
    (own_loads : (i j : ℕ) → inside i j ≡ true → loaded (record { source = sources.Func func_index; x = i; y = j }) ≡ true) where
  abbrev values : List ℕ
  values = produced_iterations schedule boxes placement iterations

  abbrev extents : Extents
  extents = update_extents source_box update

  abbrev Closed : Visit → Type 0
  Closed visit = (i j : ℕ) → has_point (Some source_box) i j ≡ true → is_visited update i j visit ≡ true
      → inside i j ≡ true

  abbrev IsSoundAt : loops.Values → Type 0
  IsSoundAt inner = is_sound reads written loaded store (put_loops func_index inner before) ≡ true

  -- ---- one visit

  module _ (inner : loops.Values) (v : IsVisitOf func (Some update) extents (visit_of extents inner)) (reduced : inner (ids.Whole variables.FirstReduction)
      < update.first.extent) (closed : Closed (visit_of extents inner)) where
    abbrev visit : Visit
    visit = visit_of extents inner

    abbrev now : Values
    now = put_loops func_index inner before

    abbrev x : ℕ
    x = word.add visit.x begin.x

    abbrev y : ℕ
    y = word.add visit.y begin.y

    abbrev point : Environment
    point = at_reduction update visit.number x y

    abbrev answers : Reads
    answers = placed corners now reads

    abbrev all_read : List Point
    all_read = update_points pipeline schedule answers func_index update visit.number x y

    abbrev Loaded : List Point → Type 0
    Loaded list = Hold (λ source_box. loaded (place_in corners now source_box)) list

    answer_words : AnswerWords pipeline.inputs answers
    answer_words = placed_words pipeline corners now reads words

    lies : LiesIn values source_box x y
    lies = visiting.lies pipeline schedule boxes rules is func_index func source_box func_is box_is placement there computed at update update_is iterations below begin begins
        before corner corner_is inner v reduced

    few : visit.number < points update
    few = visiting.few_points pipeline schedule boxes rules is func_index func source_box func_is box_is placement there computed at update update_is iterations below begin
        begins before corner corner_is inner v reduced

    near : IsNear x × IsNear y
    near = visiting.near pipeline schedule boxes rules is func_index func source_box func_is box_is placement there computed at update update_is iterations below begin begins
        before corner corner_is inner v reduced

    all_lie : AreBoxed values (sources.Func func_index) (Some (Some source_box)) all_read
    all_lie =
        own_points_lie pipeline schedule boxes rules is func_index func placement func_is there.standing there.reached computed (consumer_at schedule boxes placement)
        refl iterations below source_box box_is at update update_is
        answers answer_words x y lies.first.word lies.second.word near.0 near.1 visit.number few (record { first = λ e. lies.first; second = λ e. lies.second })

    all_stay : AllByRecursion (λ source_box. same_source source_box.source (sources.Func func_index) ≡ true → IsInPlace update x y source_box) all_read
    all_stay = own_reads_stay pipeline schedule rules func_index func func_is at update update_is answers visit.number x
        y

    own_inside : (a b : ℕ) → LiesIn values source_box a b → IsInPlace update x y (record { source = sources.Func func_index; x = a; y = b })
        → inside (word.subtract a begin.x) (word.subtract b begin.y) ≡ true
    own_inside a b boxed stays =
        closed (word.subtract a begin.x) (word.subtract b begin.y)
        (visiting.boxed_at pipeline schedule boxes rules is func_index func source_box func_is box_is placement there computed at update update_is iterations below begin begins
        before corner corner_is inner v reduced a b boxed)
        (visiting.on_slice pipeline schedule boxes rules is func_index func source_box func_is box_is placement there computed at update update_is iterations below begin begins
        before corner corner_is inner v reduced a b stays)

    one_loads : (s : Source) (a b : ℕ) (test : Bool) → same_source s (sources.Func func_index) ≡ test → (test ≡ true → LiesIn values source_box a b)
        → (test ≡ true → IsInPlace update x y (record { source = s; x = a; y = b }))
        → (test ≡ false → loaded (place_in corners now (record { source = s; x = a; y = b })) ≡ true)
        → loaded (place_in corners now (record { source = s; x = a; y = b })) ≡ true
    one_loads s a b false differs boxed stays other = other refl
    one_loads (sources.Input k) a b true same boxed stays other = absurd cc
    one_loads (sources.Func k) a b true same boxed stays other =
        let p = stays refl in
        subst (λ (n : ℕ). loaded (place_in corners now (record { source = sources.Func n; x = a; y = b })) ≡ true) (sym (eqb-true k func_index same))
        (ap loaded (own_placed inner a b) ∙ own_loads (word.subtract a begin.x) (word.subtract b begin.y) (own_inside a b (boxed refl)
        (record { first = p.first; second = p.second })))

    all_loads : (list : List Point) → AllByRecursion (λ own_point. same_source own_point.source (sources.Func func_index) ≡ true
        → LiesIn values source_box own_point.x own_point.y) list
        → AllByRecursion (λ source_box. same_source source_box.source (sources.Func func_index) ≡ true
        → IsInPlace update x y source_box) list
        → AllByRecursion (λ source_box. same_source source_box.source (sources.Func func_index) ≡ false → loaded (place_in corners now source_box) ≡ true) list → Loaded list
    all_loads [] lie stay other = tt
    all_loads (first ∷ list) lie stay other = (
      one_loads first.source first.x first.y (same_source first.source (sources.Func func_index)) refl lie.0 (λ e. let p = stay.0 e in
          record { first = p.first; second = p.second }) other.0,
      all_loads list lie.1 stay.1 other.1,
    )

    loads : Loaded all_read
    loads = all_loads all_read all_lie all_stay (others inner visit.number x y few lies)

    -- ---- its parts

    abbrev left : List Point
    left = (seen_in pipeline schedule answers func_index point update.left_x).points

    abbrev second : List Point
    second = (second_seen pipeline schedule answers func_index point update.left_y).points

    abbrev target : Point
    target = record {
      source = sources.Func func_index;
      x = (seen_in pipeline schedule answers func_index point update.left_x).value;
      y =
          (second_seen pipeline schedule answers func_index point update.left_y).value;
    }

    abbrev right : List Point
    right = (seen_in pipeline schedule answers (suc func_index) point update.right).points

    behind_left : (P : Point → Type 0) → AllByRecursion P all_read → AllByRecursion P left × (AllByRecursion P second × (P target × AllByRecursion P right))
    behind_left P all =
        let p = all_parts P left (second ++ (target ∷ right)) all in
        let q = all_parts P second (target ∷ right) p.1 in
        (p.0, (q.0, q.1))

    target_inside : inside (word.subtract target.x begin.x) (word.subtract target.y begin.y) ≡ true
    target_inside =
        let same = eq-eqb func_index func_index refl in
        let p = (behind_left (λ source_box. same_source source_box.source (sources.Func func_index) ≡ true → IsInPlace update x y source_box) all_stay).1.1.0 same in
        own_inside target.x target.y ((behind_left (λ own_point. same_source own_point.source (sources.Func func_index) ≡ true
        → LiesIn values source_box own_point.x own_point.y) all_lie).1.1.0 same) (record { first = p.first; second = p.second })

    row_is : (index : Option Expr) → (second_seen pipeline schedule answers func_index point index).value
        ≡ index_of (inlined (valuing answers) (flags pipeline schedule) pipeline.funcs func_index (variable point))
        index
    row_is None = refl
    row_is (Some index) = sees_inlined_values answers (flags pipeline schedule) pipeline.funcs func_index point index

    index_points : (index : Option Expr) → (second_seen pipeline schedule answers func_index point index).points
        ≡ points_of_index (λ e. (inlined (seeing answers) (flags pipeline schedule) pipeline.funcs func_index (seen_variable point) e).points) index
    index_points None = refl
    index_points (Some index) = refl

    writes : written func_index (word.subtract (inlined (valuing answers) (flags pipeline schedule) pipeline.funcs func_index (variable point) update.left_x) begin.x)
        (word.subtract (index_of (inlined (valuing answers) (flags pipeline schedule) pipeline.funcs func_index (variable point)) update.left_y) begin.y) ≡ true
    writes =
        ap (λ (n : ℕ). written func_index (word.subtract n begin.x) (word.subtract (index_of (inlined (valuing answers) (flags pipeline schedule) pipeline.funcs
        func_index (variable point)) update.left_y) begin.y))
        (sym (sees_inlined_values answers (flags pipeline schedule) pipeline.funcs func_index point update.left_x))
        ∙ ap (λ (n : ℕ). written func_index (word.subtract target.x begin.x) (word.subtract n begin.y)) (sym (row_is update.left_y))
        ∙ own_writes (word.subtract target.x begin.x) (word.subtract target.y begin.y) target_inside

    -- ---- the store

    abbrev WritesAt : Environment → ℕ → ℕ → Type 0
    WritesAt p c r =
        written func_index (word.subtract (inlined (valuing answers) (flags pipeline schedule) pipeline.funcs func_index (variable p) update.left_x) c)
        (word.subtract (index_of (inlined (valuing answers) (flags pipeline schedule) pipeline.funcs func_index (variable p)) update.left_y) r) ≡ true

    sound_at : IsSoundAt inner
    sound_at =
        let point_is : visited_point now func_index corner update ≡ point = visiting.point_is pipeline schedule boxes rules is func_index func source_box func_is box_is placement
        there computed at update update_is iterations below begin begins before corner corner_is inner v reduced in
        let back = sym point_is in
        let parts = behind_left (λ source_box. loaded (place_in corners now source_box) ≡ true) loads in
        sound reads written loaded now
        (subst (λ (p : Environment). WritesAt p (linear_value now corner.x) (linear_value now corner.y)) back
        (subst (λ (n : ℕ). WritesAt point n (linear_value now corner.y)) (sym (corner_is inner).0) (subst (λ (n : ℕ). WritesAt point begin.x n)
        (sym (corner_is inner).1) writes)))
        (subst (λ (p : Environment). Loaded (inlined (seeing answers) (flags pipeline schedule) pipeline.funcs func_index (seen_variable p) update.left_x).points)
        back parts.0)
        (subst (λ (p : Environment). Loaded (points_of_index (λ (e : Expr). (inlined (seeing answers) (flags pipeline schedule) pipeline.funcs func_index
        (seen_variable p) e).points) update.left_y)) back
        (subst Loaded (index_points update.left_y) parts.1.0))
        (subst (λ (p : Environment). Loaded (inlined (seeing answers) (flags pipeline schedule) pipeline.funcs (suc func_index) (seen_variable p)
        update.right).points) back parts.1.1.1)

  -- ---- all that are listed

  pub all_sound : (list : List loops.Values) → AllByRecursion (IsVisitOf func (Some update) extents) (map (visit_of extents) list)
      → AllByRecursion (λ inner. inner (ids.Whole variables.FirstReduction) < update.first.extent) list → AllByRecursion Closed (map (visit_of extents) list)
      → AllByRecursion IsSoundAt list
  all_sound list visits reduced closed =
      all_so (λ inner. (IsVisitOf func (Some update) extents (visit_of extents inner) × Closed (visit_of extents inner))
      × (inner (ids.Whole variables.FirstReduction) < update.first.extent)) IsSoundAt
      (λ inner p. sound_at inner p.0.0 p.1 p.0.1) list
      (all_and (λ inner. IsVisitOf func (Some update) extents (visit_of extents inner) × Closed (visit_of extents inner))
      (λ inner. inner (ids.Whole variables.FirstReduction) < update.first.extent) list
      (all_map (λ visit. IsVisitOf func (Some update) extents visit × Closed visit) (λ inner. IsVisitOf func (Some update) extents (visit_of extents inner)
      × Closed (visit_of extents inner)) (visit_of extents) (λ inner p. p) list
      (all_and (IsVisitOf func (Some update) extents) Closed (map (visit_of extents) list) visits closed))
      reduced)
