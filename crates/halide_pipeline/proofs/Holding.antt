-- What each definition reads passes, so all that a pixel reads itself does.
use Rattle.std.proofs.Common.{◌≡◌, ℕ, zero, suc, ◌<◌, ◌≤◌, Bool, true, false, List, [], ◌∷◌, ◌++◌, Option, Some, None, refl, subst, arith}
use Rattle.std.specs.Prelude.{cond, ◌==◌, slice_get, length}
use Rattle.std.proofs.lemmas.Bool.{eqb-true}
use Rattle.halide_pipeline.specs.declared.definitions.Func.{Func}
use Rattle.halide_pipeline.specs.declared.definitions.Update.{Update}
use Rattle.halide_pipeline.specs.declared.expressions.Source.{Source}
use Rattle.halide_pipeline.specs.declared.expressions.Source.TheVariants as sources
use Rattle.halide_pipeline.specs.Pixel.{Planes, reads_of, with_plane, at_point, at_reduction, points, is_hit, after, stage, pixels}
use Rattle.halide_pipeline.specs.Points.{Point, Hold, points_read, left_points, untraced, with_trace, trace_of, traced, left_trace, after_trace}
use Rattle.halide_pipeline.specs.Points.{after_all_trace, stage_trace, ReadsHold, DefinitionsHoldReads}
use Rattle.halide_pipeline.proofs.Seeing.{all_both}

module _ (test : Point → Bool) where
  both : (a b : List Point) → Hold test a → Hold test b → Hold test (a ++ b)
  both a b first second = all_both (λ (p : Point). test p ≡ true) a b first second

  none_traced : (s : Source) (x y : ℕ) → Hold test (trace_of untraced s x y)
  none_traced (sources.Input place) x y = tt
  none_traced (sources.Func place) x y = tt

  -- points alone, where nothing is read in turn
  pub traced_alone : (read : List Point) → Hold test read → Hold test (traced untraced read)
  traced_alone [] held = tt
  traced_alone (point ∷ others) held = (
    held.0,
    both (trace_of untraced point.source point.x point.y) (traced untraced others) (none_traced point.source point.x point.y)
        (traced_alone others held.1),
  )

  module _ (func_index : ℕ) where
    abbrev Reached : (ℕ → ℕ → List Point) → Type 0
    Reached trace = (x y : ℕ) → test (record { source = sources.Func func_index; x = x; y = y }) ≡ true
        → Hold test (trace x y)

    own_traced : (trace : ℕ → ℕ → List Point) → Reached trace → (s : Source) (x y : ℕ) → test (record { source = s; x = x; y = y }) ≡ true
        → Hold test (trace_of (with_trace func_index trace untraced) s x y)
    own_traced trace reached (sources.Input place) x y passed = tt
    own_traced trace reached (sources.Func place) x y passed = by_test (place == func_index) refl
      where
        by_test : (same : Bool) → (place == func_index) ≡ same → Hold test (cond same trace (untraced place) x y)
        by_test true e = reached x y (subst (λ (at : ℕ). test (record { source = sources.Func at; x = x; y = y }) ≡ true) (eqb-true place func_index e) passed)
        by_test false e = tt

    traced_own : (trace : ℕ → ℕ → List Point) → Reached trace → (read : List Point) → Hold test read → Hold test (traced (with_trace func_index trace untraced) read)
    traced_own trace reached [] held = tt
    traced_own trace reached (point ∷ others) held = (
      held.0,
      both (trace_of (with_trace func_index trace untraced) point.source point.x point.y) (traced (with_trace func_index trace untraced) others)
          (own_traced trace reached point.source point.x point.y held.0) (traced_own trace reached others held.1),
    )

    module _ (func : Func) (inputs earlier : Planes) (holds : ReadsHold test func_index func inputs earlier) where
      left_at : (at : ℕ) (update : Update) → slice_get func.updates at ≡ Some update → (number : ℕ) → number < points update
          → Reached (λ x y. traced untraced (left_points (reads_of inputs earlier) (at_reduction update number x y) update))
      left_at at update is number before x y passed = traced_alone (left_points (reads_of inputs earlier) (at_reduction update number x y) update)
          (holds.left at update is number x y before passed)

      lefts_at : (at : ℕ) (update : Update) → slice_get func.updates at ≡ Some update → (number : ℕ) → number ≤ points update
          → Reached (left_trace update inputs earlier untraced number)
      unfolding left_trace
      lefts_at at update is zero few x y passed = tt
      lefts_at at update is (suc number) few x y passed =
          both (traced untraced (left_points (reads_of inputs earlier) (at_reduction update number x y) update)) (left_trace update inputs earlier untraced
          number x y)
          (left_at at update is number (omega (arith, few)) x y passed) (lefts_at at update is number (omega (arith, few)) x y passed)

      -- what is after this many points
      abbrev reach : ℕ → Update → (ℕ → ℕ → List Point) → ℕ → ℕ → ℕ → List Point
      reach at update trace number = after_trace func_index update inputs earlier untraced (stage func_index func inputs earlier at) trace number

      abbrev right_of : ℕ → Update → ℕ → ℕ → ℕ → List Point
      right_of at update number x y =
          points_read (reads_of inputs (with_plane func_index (after func_index update inputs earlier (stage func_index func inputs earlier at) number) earlier))
          (at_reduction update number x y) update.right

      abbrev hit : ℕ → Update → (ℕ → ℕ → List Point) → ℕ → ℕ → ℕ → List Point
      hit at update trace number x y = left_trace update inputs earlier untraced number x y ++ traced (with_trace func_index (reach at update trace number) untraced)
          (right_of at update number x y)

      -- where the last point is a hit or not
      step_at : (at : ℕ) (update : Update) → slice_get func.updates at ≡ Some update → (trace : ℕ → ℕ → List Point) (number x y : ℕ) → number < points update
          → test (record { source = sources.Func func_index; x = x; y = y }) ≡ true
          → Reached (reach at update trace number)
          → (is_at : Bool) → is_hit (reads_of inputs earlier) update (at_reduction update number x y) ≡ is_at
          → Hold test (cond is_at (hit at update trace number x y) (reach at update trace number x y))
      step_at at update is trace number x y before passed inner true e =
          both (left_trace update inputs earlier untraced number x y) (traced (with_trace func_index (reach at update trace number) untraced)
          (right_of at update number x y))
          (lefts_at at update is number (omega (arith, before)) x y passed)
          (traced_own (reach at update trace number) inner (right_of at update number x y) (holds.right at update is number x y before passed e))
      step_at at update is trace number x y before passed inner false e = inner x y passed

      after_at : (at : ℕ) (update : Update) → slice_get func.updates at ≡ Some update → (trace : ℕ → ℕ → List Point) → Reached trace → (number : ℕ)
          → number ≤ points update
          → Reached (reach at update trace number)
      unfolding after_trace
      after_at at update is trace reached zero few x y passed = reached x y passed
      after_at at update is trace reached (suc number) few x y passed =
          let before : number < points update = omega (arith, few) in
          let is_at = is_hit (reads_of inputs earlier) update (at_reduction update number x y) in
          both (traced untraced (left_points (reads_of inputs earlier) (at_reduction update number x y) update)) (cond is_at (hit at update trace number x y)
          (reach at update trace number x y))
          (left_at at update is number before x y passed)
          (step_at at update is trace number x y before passed (after_at at update is trace reached number (omega (arith, few))) is_at refl)

      all_at : (at : ℕ) (update : Option Update) → slice_get func.updates at ≡ update → (trace : ℕ → ℕ → List Point) → Reached trace
          → Reached (after_all_trace func_index update inputs earlier untraced (stage func_index func inputs earlier at)
          trace)
      all_at at None is trace reached = reached
      all_at at (Some update) is trace reached = after_at at update is trace reached (points update) (omega arith)

      stage_at : (updates : ℕ) → Reached (stage_trace func_index func inputs earlier untraced updates)
      unfolding stage_trace
      stage_at zero x y passed = traced_alone (points_read (reads_of inputs earlier) (at_point x y) func.pure) (holds.pure x y passed)
      stage_at (suc updates) x y passed = all_at updates (slice_get func.updates updates) refl (stage_trace func_index func inputs earlier untraced updates)
          (stage_at updates) x y passed

pub definitions_hold_reads : DefinitionsHoldReads
definitions_hold_reads test funcs inputs place func is holds x y passed =
    rw is (stage_at test place func inputs (pixels funcs inputs place) holds (length func.updates) x y passed)
