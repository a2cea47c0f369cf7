-- Which points pass a test, where a point of an inlined Func stands for those that it reads.
-- This project's own.
use Rattle.std.specs.Prelude.{◌≡◌, ℕ, zero, suc, ◌<◌, ◌≤◌, ◌==◌, ◌&&◌, if◌then◌else◌, Bool, true, false, List, slice_get, Option, Some, None}
use Rattle.std.specs.List.{list_all}
use Rattle.halide_pipeline.specs.declared.definitions.Func.{Func}
use Rattle.halide_pipeline.specs.declared.definitions.Input.{Input}
use Rattle.halide_pipeline.specs.declared.expressions.Expr.{Expr}
use Rattle.halide_pipeline.specs.declared.expressions.Source.{Source}
use Rattle.halide_pipeline.specs.declared.expressions.Source.TheVariants as sources
use Rattle.halide_pipeline.specs.declared.expressions.Variable.{Variable}
use Rattle.halide_pipeline.specs.WellFormed.{keeps, is_read}
use Rattle.halide_pipeline.specs.declared.environments.Environment.{Environment}
use Rattle.halide_pipeline.specs.Pixel.{Plane, Planes, Reads, reads_of, with_plane, at_point, pixels}
use Rattle.halide_pipeline.specs.Points.{Point, Hold, points_read, direct_trace}
use Rattle.bounds_inlining.specs.Inlining.{inlined, is_computed}
use Rattle.bounds_inlining.specs.Values.{seeing}
use Rattle.bounds_inlining.specs.Laws.{AreFuncs, AreSimple, AnswerPixels, seen_variable}

-- a point of the Func at this place, where that is inlined
abbrev pub is_place : (ℕ → Bool) → ℕ → Source → Bool
is_place is_inlined func_index (sources.Input place) = false
is_place is_inlined func_index (sources.Func place) = is_inlined place && place == func_index

-- All points that a definition reads at a point pass.
abbrev pub passes_in : (Point → Bool) → Planes → Planes → Option Func → ℕ → ℕ → Bool
passes_in passes planes earlier None x y = true
passes_in passes planes earlier (Some func) x y = list_all passes (points_read (reads_of planes earlier) (at_point x y) func.pure)

-- A point of an inlined Func, one of the first this many, passes if all points do that its definition reads there.
-- Every other point is tested itself.
unfoldable pub passes : (Point → Bool) → (ℕ → Bool) → List Func → Planes → ℕ → Point → Bool
passes test is_inlined funcs planes zero point = test point
passes test is_inlined funcs planes (suc count) point =
    if is_place is_inlined count point.source
    then passes_in (passes test is_inlined funcs planes count) planes (pixels funcs planes count) (slice_get funcs count) point.x point.y
    else passes test is_inlined funcs planes count point

-- ---- laws

abbrev pub ComputedPointsAreTested : Type 0
ComputedPointsAreTested = (test : Point → Bool) (is_inlined : ℕ → Bool) (funcs : List Func) (planes : Planes) (count : ℕ) (point : Point)
    → is_computed is_inlined point.source ≡ true → passes test is_inlined funcs planes count point ≡ test point

-- A test that holds of all points of inputs and computed Funcs that an expression reads through inlined Funcs is passed
-- by each point that it reads in its text.
abbrev pub SeenPointsPass : Type 0
SeenPointsPass = (test : Point → Bool) (reads : Reads) (is_inlined : ℕ → Bool) (inputs : List Input) (funcs : List Func) (planes : Planes)
    → AreFuncs inputs funcs → AreSimple is_inlined funcs
    → (count : ℕ) → AnswerPixels reads is_inlined inputs funcs planes count
    → (has : Variable → Bool) (environment : Environment) (e : Expr) → keeps (is_read inputs funcs count) has e ≡ true
    → Hold test (inlined (seeing reads) is_inlined funcs count (seen_variable environment) e).points
    → (more : ℕ) → count ≤ more → Hold (passes test is_inlined funcs planes more) (points_read (reads_of planes (pixels funcs planes count)) environment e)

-- So it is in an update, whose Func answers by what is there.
abbrev pub SeenPointsPassInUpdates : Type 0
SeenPointsPassInUpdates = (test : Point → Bool) (reads : Reads) (is_inlined : ℕ → Bool) (inputs : List Input) (funcs : List Func) (planes : Planes)
    → AreFuncs inputs funcs → AreSimple is_inlined funcs
    → (func_index : ℕ) (plane : Plane) → is_inlined func_index ≡ false
    → AnswerPixels reads is_inlined inputs funcs planes func_index
    → ((x y : ℕ) → reads (sources.Func func_index) x y ≡ plane x y)
    → (has : Variable → Bool) (environment : Environment) (e : Expr) → keeps (is_read inputs funcs (suc func_index)) has e ≡ true
    → Hold test (inlined (seeing reads) is_inlined funcs (suc func_index) (seen_variable environment) e).points
    → (more : ℕ) → func_index < more
    → Hold (passes test is_inlined funcs planes more) (points_read (reads_of planes (with_plane func_index plane (pixels funcs planes func_index))) environment e)

-- Where a point of an inlined Func passes, all that its pixel reads itself does.
abbrev pub PassingIsClosed : Type 0
PassingIsClosed = (test : Point → Bool) (is_inlined : ℕ → Bool) (inputs : List Input) (funcs : List Func) (planes : Planes) → AreFuncs inputs funcs
    → AreSimple is_inlined funcs
    → (more func_index x y : ℕ) → func_index < more → is_inlined func_index ≡ true
    → passes test is_inlined funcs planes more (record { source = sources.Func func_index; x = x; y = y }) ≡ true
    → Hold (passes test is_inlined funcs planes more) (direct_trace funcs planes func_index x y)
