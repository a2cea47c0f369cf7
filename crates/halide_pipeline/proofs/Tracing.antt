-- What is at a point depends on what is read alone.
use Rattle.std.proofs.Common.{◌≡◌, ℕ, zero, suc, Bool, true, false, List, [], ◌∷◌, ◌++◌, Option, Some, None, refl, ap, subst, ◌∙◌}
use Rattle.std.specs.Prelude.{cond, ◌==◌, ◌&&◌, slice_get, length}
use Rattle.std.specs.List.{AllByRecursion}
use Rattle.std.proofs.lemmas.Bool.{eqb-true}
use Rattle.halide_pipeline.specs.declared.definitions.Func.{Func}
use Rattle.halide_pipeline.specs.declared.definitions.Update.{Update}
use Rattle.halide_pipeline.specs.declared.expressions.Expr.{Expr}
use Rattle.halide_pipeline.specs.declared.expressions.Source.{Source}
use Rattle.halide_pipeline.specs.declared.expressions.Source.TheVariants as sources
use Rattle.halide_pipeline.specs.declared.environments.Environment.{Environment}
use Rattle.halide_pipeline.specs.Pixel.{Plane, Planes, Reads, value, reads_of, with_plane, at_point, at_reduction, points, index_value, is_hit, after}
use Rattle.halide_pipeline.specs.Pixel.{after_all, stage, func_plane, pixels}
use Rattle.halide_pipeline.specs.Points.{Point, Trace, points_read, index_points, left_points, untraced, with_trace, trace_of, traced, left_trace, after_trace}
use Rattle.halide_pipeline.specs.Points.{after_all_trace, stage_trace, func_trace, pixel_trace, AgreeAt, Agree, InputsAgreeAt, StagesDependOnReads}
use Rattle.halide_pipeline.specs.Points.{PixelsDependOnInputs, IsClosed, ClosedPointsHoldReads}
use Rattle.halide_pipeline.proofs.Seeing.{all_parts, all_both, values_depend_on_reads}

-- ---- one way of reading answers another's points, with what these read

-- at each point that is so, and whose traced points are so, the two ways agree
abbrev Answers : (Point → Type 0) → Trace → Reads → Reads → Type 0
Answers P traces reads other = (point : Point) → P point → AllByRecursion P (trace_of traces point.source point.x point.y) → AgreeAt reads other point

module _ (P : Point → Type 0) where
  -- then they agree at points that are so with all that is read in turn
  agree_at : (traces : Trace) (reads other : Reads) → Answers P traces reads other → (points : List Point) → AllByRecursion P (traced traces points)
      → Agree reads other points
  agree_at traces reads other answers [] all = tt
  agree_at traces reads other answers (point ∷ others) all =
      let parts = all_parts P (trace_of traces point.source point.x point.y) (traced traces others) all.1 in
      (answers point all.0 parts.0, agree_at traces reads other answers others parts.1)

  value_at : (traces : Trace) (reads other : Reads) → Answers P traces reads other → (environment : Environment) (e : Expr)
      → AllByRecursion P (traced traces (points_read reads environment e)) → value other environment e ≡ value reads environment e
  value_at traces reads other answers environment e all = values_depend_on_reads reads other environment e (agree_at traces reads other answers
      (points_read reads environment e) all)

  module _ (func_index : ℕ) (inputs earlier others found_planes : Planes) (traces : Trace) (answers : Answers P traces (reads_of inputs earlier) (reads_of others found_planes))
    where
      -- planes of the own Func that are one where all that is read is so
      abbrev Stands : Plane → Plane → (ℕ → ℕ → List Point) → Type 0
      Stands plane other trace = (x y : ℕ) → AllByRecursion P (trace x y) → other x y ≡ plane x y

      own_at : (test : Bool) (source_index : ℕ) (plane other : Plane) (trace : ℕ → ℕ → List Point) (x y : ℕ) → Stands plane other trace
          → AllByRecursion P (cond test trace (traces source_index) x y) → (AllByRecursion P (traces source_index x y) → found_planes source_index x y ≡ earlier source_index x y)
          → cond test other (found_planes source_index) x y ≡ cond test plane (earlier source_index) x y
      own_at true source_index plane other trace x y stands all before = stands x y all
      own_at false source_index plane other trace x y stands all before = before all

      by_source : (plane other : Plane) (trace : ℕ → ℕ → List Point) → Stands plane other trace → (s : Source) (x y : ℕ)
          → P (record { source = s; x = x; y = y }) → AllByRecursion P
          (trace_of (with_trace func_index trace traces) s x y)
          → reads_of others (with_plane func_index other found_planes) s x y ≡ reads_of inputs
          (with_plane func_index plane earlier) s x y
      by_source plane other trace stands (sources.Input source_index) x y is all = answers (record { source = sources.Input source_index; x = x; y = y }) is tt
      by_source plane other trace stands (sources.Func source_index) x y is all =
          own_at (source_index == func_index) source_index plane other trace x y stands all (λ before. answers (record { source = sources.Func source_index; x = x; y = y }) is before)

      own_answers : (plane other : Plane) (trace : ℕ → ℕ → List Point) → Stands plane other trace
          → Answers P (with_trace func_index trace traces) (reads_of inputs (with_plane func_index plane earlier)) (reads_of others (with_plane func_index other found_planes))
      own_answers plane other trace stands point is all = by_source plane other trace stands point.source point.x point.y is all

      module _ (update : Update) where
        index_at : (index : Option Expr) (environment : Environment)
            → AllByRecursion P (traced traces (index_points (reads_of inputs earlier) environment index))
            → index_value (reads_of others found_planes) environment index ≡ index_value (reads_of inputs earlier) environment index
        index_at None environment all = refl
        index_at (Some index) environment all = value_at traces (reads_of inputs earlier) (reads_of others found_planes) answers environment index all

        traced_parts : (xs ys : List Point) → AllByRecursion P (traced traces (xs ++ ys))
            → AllByRecursion P (traced traces xs) × AllByRecursion P (traced traces ys)
        traced_parts [] ys all = (tt, all)
        traced_parts (point ∷ xs) ys all =
            let front = all_parts P (trace_of traces point.source point.x point.y) (traced traces (xs ++ ys)) all.1 in
            let parts = traced_parts xs ys front.1 in
            ((all.0, all_both P (trace_of traces point.source point.x point.y) (traced traces xs) front.0 parts.0), parts.1)

        hit_at : (environment : Environment) → AllByRecursion P (traced traces (left_points (reads_of inputs earlier) environment update))
            → is_hit (reads_of others found_planes) update environment ≡ is_hit (reads_of inputs earlier) update
            environment
        hit_at environment all =
            let parts = traced_parts (points_read (reads_of inputs earlier) environment update.left_x) (index_points (reads_of inputs earlier) environment
            update.left_y) all in
            ap (λ (n : ℕ). n == environment.first_argument && index_value (reads_of others found_planes) environment update.left_y == environment.second_argument)
            (value_at traces (reads_of inputs earlier) (reads_of others found_planes) answers environment update.left_x parts.0)
            ∙ ap (λ (n : ℕ). value (reads_of inputs earlier) environment update.left_x == environment.first_argument && n == environment.second_argument)
            (index_at update.left_y environment parts.1)

        module _ (before then : Plane) (trace : ℕ → ℕ → List Point) (stands : Stands before then trace) where
          abbrev reach : ℕ → ℕ → ℕ → List Point
          reach number = after_trace func_index update inputs earlier traces before trace number

          -- where the last point is a hit or not
          step_at : (test : Bool) (number x y : ℕ) → Stands (after func_index update inputs earlier before number) (after func_index update others found_planes then number)
              (reach number)
              → AllByRecursion P (cond test
              (left_trace update inputs earlier traces number x y ++ traced
              (with_trace func_index (reach number) traces)
              (points_read (reads_of inputs (with_plane func_index (after func_index update inputs earlier before number) earlier)) (at_reduction update number x y)
              update.right))
              (reach number x y))
              → cond test (value (reads_of others (with_plane func_index (after func_index update others found_planes then number) found_planes)) (at_reduction update number x y)
              update.right) (after func_index update others found_planes then number x y)
              ≡ cond test (value (reads_of inputs (with_plane func_index (after func_index update inputs earlier before number) earlier)) (at_reduction update number x y)
              update.right) (after func_index update inputs earlier before number x y)
          step_at true number x y inner all =
              let parts = all_parts P (left_trace update inputs earlier traces number x y) (traced (with_trace func_index (reach number) traces)
              (points_read (reads_of inputs (with_plane func_index (after func_index update inputs earlier before number) earlier)) (at_reduction update number x y)
              update.right)) all in
              value_at (with_trace func_index (reach number) traces) (reads_of inputs (with_plane func_index (after func_index update inputs earlier before number) earlier))
              (reads_of others (with_plane func_index (after func_index update others found_planes then number)
              found_planes))
              (own_answers (after func_index update inputs earlier before number) (after func_index update others found_planes then number) (reach number) inner)
              (at_reduction update number x y) update.right parts.1
          step_at false number x y inner all = inner x y all

          after_at : (number : ℕ) → Stands (after func_index update inputs earlier before number) (after func_index update others found_planes then number) (reach number)
          unfolding after after_trace
          after_at zero x y all = stands x y all
          after_at (suc number) x y all =
              let left = traced traces (left_points (reads_of inputs earlier) (at_reduction update number x y) update) in
              let parts = all_parts P left _ all in
              rw (hit_at (at_reduction update number x y) parts.0) (step_at (is_hit (reads_of inputs earlier) update (at_reduction update number x y)) number x
              y
              (after_at number) parts.1)

      all_at : (update : Option Update) (before then : Plane) (trace : ℕ → ℕ → List Point) → Stands before then trace
          → Stands (after_all func_index update inputs earlier before) (after_all func_index update others found_planes then) (after_all_trace func_index update inputs earlier traces
          before
          trace)
      all_at None before then trace stands = stands
      all_at (Some update) before then trace stands = after_at update before then trace stands (points update)

      stage_at : (func : Func) (updates : ℕ) → Stands (stage func_index func inputs earlier updates) (stage func_index func others found_planes updates) (stage_trace func_index func inputs
          earlier traces updates)
      unfolding stage stage_trace
      stage_at func zero x y all = value_at traces (reads_of inputs earlier) (reads_of others found_planes) answers (at_point x y) func.pure all
      stage_at func (suc updates) x y all =
          all_at (slice_get func.updates updates) (stage func_index func inputs earlier updates) (stage func_index func others found_planes updates) (stage_trace func_index func inputs
          earlier traces updates) (stage_at func updates) x y all

pub stages_depend_on_reads : StagesDependOnReads
stages_depend_on_reads own func inputs earlier others found traces updates x y agree =
    stage_at (AgreeAt (reads_of inputs earlier) (reads_of others found)) own inputs earlier others found traces (λ point is all. is) func updates x y agree

-- ---- pixels

module _ (funcs : List Func) (inputs others : Planes) where
  abbrev Input : Point → Type 0
  Input point = InputsAgreeAt inputs others point.source point.x point.y

  abbrev Pixels : ℕ → Type 0
  Pixels count = (func_index x y : ℕ) → AllByRecursion Input (pixel_trace funcs inputs count func_index x y)
      → pixels funcs others count func_index x y ≡ pixels funcs inputs count func_index x y

  answers_by : (count : ℕ) → Pixels count → (s : Source) (x y : ℕ) → InputsAgreeAt inputs others s x y
      → AllByRecursion Input (trace_of (pixel_trace funcs inputs count) s x y)
      → reads_of others (pixels funcs others count) s x y ≡ reads_of inputs (pixels funcs inputs count) s x y
  answers_by count inner (sources.Input func_index) x y is all = is
  answers_by count inner (sources.Func func_index) x y is all = inner func_index x y all

  func_at : (count : ℕ) → Pixels count → (func : Option Func) (x y : ℕ)
      → AllByRecursion Input (func_trace count func inputs (pixels funcs inputs count) (pixel_trace funcs inputs count) x y)
      → func_plane count func others (pixels funcs others count) x y ≡ func_plane count func inputs (pixels funcs inputs count) x y
  func_at count inner None x y all = refl
  func_at count inner (Some func) x y all =
      stage_at Input count inputs (pixels funcs inputs count) others (pixels funcs others count) (pixel_trace funcs inputs count)
      (λ point is found. answers_by count inner point.source point.x point.y is found) func (length func.updates) x y all

  place_at : (test : Bool) (count func_index x y : ℕ) → Pixels count
      → AllByRecursion Input (cond test (func_trace count (slice_get funcs count) inputs (pixels funcs inputs count) (pixel_trace funcs inputs count))
      (pixel_trace funcs inputs count func_index) x y)
      → cond test (func_plane count (slice_get funcs count) others (pixels funcs others count)) (pixels funcs others count func_index) x y
      ≡ cond test (func_plane count (slice_get funcs count) inputs (pixels funcs inputs count)) (pixels funcs inputs count func_index) x y
  place_at true count func_index x y inner all = func_at count inner (slice_get funcs count) x y all
  place_at false count func_index x y inner all = inner func_index x y all

  pixels_at : (count : ℕ) → Pixels count
  unfolding pixels pixel_trace
  pixels_at zero func_index x y all = refl
  pixels_at (suc count) func_index x y all = place_at (func_index == count) count func_index x y (pixels_at count) all

pub pixels_depend_on_inputs : PixelsDependOnInputs
pixels_depend_on_inputs funcs inputs others count place x y agree = pixels_at funcs inputs others count place x y agree

-- ---- closed points

-- what is read in turn of near pixels is among the points only if what is read of far ones is
abbrev Reaches : (Point → Type 0) → Trace → Trace → Type 0
Reaches P near far = (point : Point) → P point → AllByRecursion P (trace_of near point.source point.x point.y)
    → AllByRecursion P (trace_of far point.source point.x point.y)

abbrev Grows : (Point → Type 0) → (ℕ → ℕ → List Point) → (ℕ → ℕ → List Point) → Type 0
Grows P near far = (x y : ℕ) → AllByRecursion P (near x y) → AllByRecursion P (far x y)

module _ (P : Point → Type 0) where
  traced_grows : (near far : Trace) → Reaches P near far → (points : List Point) → AllByRecursion P (traced near points) → AllByRecursion P (traced far points)
  traced_grows near far reach [] all = tt
  traced_grows near far reach (point ∷ others) all =
      let parts = all_parts P (trace_of near point.source point.x point.y) (traced near others) all.1 in (
        all.0,
        all_both P (trace_of far point.source point.x point.y) (traced far others) (reach point all.0 parts.0) (traced_grows near far reach others
            parts.1),
      )

  own_grows : (test : Bool) (near far others beyond : ℕ → ℕ → List Point) (x y : ℕ) → Grows P near far → (AllByRecursion P (others x y)
      → AllByRecursion P (beyond x y))
      → AllByRecursion P (cond test near others x y) → AllByRecursion P (cond test far beyond x y)
  own_grows true near far others beyond x y grows other all = grows x y all
  own_grows false near far others beyond x y grows other all = other all

  module _ (func_index : ℕ) (near far : Trace) (reach : Reaches P near far) where
    with_reach : (own_near own_far : ℕ → ℕ → List Point) → Grows P own_near own_far → (s : Source) (x y : ℕ) → P (record { source = s; x = x; y = y })
        → AllByRecursion P (trace_of (with_trace func_index own_near near) s x y) → AllByRecursion P (trace_of (with_trace func_index own_far far) s x y)
    with_reach own_near own_far grows (sources.Input place) x y is all = all
    with_reach own_near own_far grows (sources.Func place) x y is all =
        own_grows (place == func_index) own_near own_far (near place) (far place) x y grows (reach (record { source = sources.Func place; x = x; y = y }) is) all

    module _ (inputs earlier : Planes) where
      module _ (update : Update) where
        left_grows : (number : ℕ) → Grows P (left_trace update inputs earlier near number) (left_trace update inputs earlier far number)
        unfolding left_trace
        left_grows zero x y all = tt
        left_grows (suc number) x y all =
            let here = left_points (reads_of inputs earlier) (at_reduction update number x y) update in
            let parts = all_parts P (traced near here) (left_trace update inputs earlier near number x y) all in
            all_both P (traced far here) (left_trace update inputs earlier far number x y) (traced_grows near far reach here parts.0)
            (left_grows number x y parts.1)

        module _ (before : Plane) (trace_near trace_far : ℕ → ℕ → List Point) (grows : Grows P trace_near trace_far) where
          abbrev near_at : ℕ → ℕ → ℕ → List Point
          near_at number = after_trace func_index update inputs earlier near before trace_near number

          abbrev far_at : ℕ → ℕ → ℕ → List Point
          far_at number = after_trace func_index update inputs earlier far before trace_far number

          abbrev right_at : ℕ → ℕ → ℕ → List Point
          right_at number x y = points_read (reads_of inputs (with_plane func_index (after func_index update inputs earlier before number) earlier))
              (at_reduction update number x y) update.right

          hit_grows : (test : Bool) (number x y : ℕ) → Grows P (near_at number) (far_at number)
              → AllByRecursion P (cond test (left_trace update inputs earlier near number x y ++ traced (with_trace func_index (near_at number) near)
              (right_at number x y)) (near_at number x y))
              → AllByRecursion P (cond test (left_trace update inputs earlier far number x y ++ traced (with_trace func_index (far_at number) far)
              (right_at number x y)) (far_at number x y))
          hit_grows true number x y inner all =
              let parts = all_parts P (left_trace update inputs earlier near number x y) (traced (with_trace func_index (near_at number) near) (right_at number x y))
              all in
              all_both P (left_trace update inputs earlier far number x y) (traced (with_trace func_index (far_at number) far) (right_at number x y))
              (left_grows number x y parts.0)
              (traced_grows (with_trace func_index (near_at number) near) (with_trace func_index (far_at number) far)
              (λ point is here. with_reach (near_at number) (far_at number) inner point.source point.x point.y is here) (right_at number x y) parts.1)
          hit_grows false number x y inner all = inner x y all

          after_grows : (number : ℕ) → Grows P (near_at number) (far_at number)
          unfolding after_trace
          after_grows zero x y all = grows x y all
          after_grows (suc number) x y all =
              let here = left_points (reads_of inputs earlier) (at_reduction update number x y) update in
              let parts = all_parts P (traced near here) _ all in
              all_both P (traced far here) _ (traced_grows near far reach here parts.0)
              (hit_grows (is_hit (reads_of inputs earlier) update (at_reduction update number x y)) number x y (after_grows number) parts.1)

      all_grow : (update : Option Update) (before : Plane) (trace_near trace_far : ℕ → ℕ → List Point) → Grows P trace_near trace_far
          → Grows P (after_all_trace func_index update inputs earlier near before trace_near) (after_all_trace func_index update inputs earlier far before trace_far)
      all_grow None before trace_near trace_far grows = grows
      all_grow (Some update) before trace_near trace_far grows = after_grows update before trace_near trace_far grows (points update)

      stage_grows : (func : Func) (updates : ℕ) → Grows P (stage_trace func_index func inputs earlier near updates) (stage_trace func_index func inputs earlier far updates)
      unfolding stage_trace
      stage_grows func zero x y all = traced_grows near far reach (points_read (reads_of inputs earlier) (at_point x y) func.pure) all
      stage_grows func (suc updates) x y all =
          all_grow (slice_get func.updates updates) (stage func_index func inputs earlier updates) (stage_trace func_index func inputs earlier near updates)
          (stage_trace func_index func inputs earlier far updates) (stage_grows func updates) x y all

      func_grows : (func : Option Func) → Grows P (func_trace func_index func inputs earlier near) (func_trace func_index func inputs earlier far)
      func_grows None x y all = tt
      func_grows (Some func) x y all = stage_grows func (length func.updates) x y all

module _ (funcs : List Func) (inputs : Planes) (test : Point → Bool) (closed : IsClosed funcs inputs test) where
  abbrev Passes : Point → Type 0
  Passes point = test point ≡ true

  abbrev Held : ℕ → Type 0
  Held count = (func_index x y : ℕ) → test (record { source = sources.Func func_index; x = x; y = y }) ≡ true
      → AllByRecursion Passes (pixel_trace funcs inputs count func_index x y)

  from_untraced : (count : ℕ) → Held count → (s : Source) (x y : ℕ) → test (record { source = s; x = x; y = y }) ≡ true
      → AllByRecursion Passes (trace_of (pixel_trace funcs inputs count) s x y)
  from_untraced count inner (sources.Input func_index) x y is = tt
  from_untraced count inner (sources.Func func_index) x y is = inner func_index x y is

  pixel_held : (is_here : Bool) (count func_index x y : ℕ) → (is_here ≡ true → func_index ≡ count) → Held count
      → test (record { source = sources.Func func_index; x = x; y = y }) ≡ true
      → AllByRecursion Passes (cond is_here (func_trace count (slice_get funcs count) inputs (pixels funcs inputs count) (pixel_trace funcs inputs count))
      (pixel_trace funcs inputs count func_index) x y)
  pixel_held true count func_index x y here inner is =
      func_grows Passes count untraced (pixel_trace funcs inputs count) (λ point own all. from_untraced count inner point.source point.x point.y own) inputs
      (pixels funcs inputs count) (slice_get funcs count) x y
      (closed count x y (subst (λ (n : ℕ). test (record { source = sources.Func n; x = x; y = y }) ≡ true) (here refl) is))
  pixel_held false count func_index x y here inner is = inner func_index x y is

  held_at : (count : ℕ) → Held count
  unfolding pixel_trace
  held_at zero func_index x y is = tt
  held_at (suc count) func_index x y is = pixel_held (func_index == count) count func_index x y (λ e. eqb-true func_index count e) (held_at count) is

pub closed_points_hold_reads : ClosedPointsHoldReads
closed_points_hold_reads funcs inputs test closed count place x y is = held_at funcs inputs test closed count place x y is
