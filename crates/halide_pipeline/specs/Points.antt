-- Which points of which sources an expression reads, and a pixel, with all that these read in turn.
--
-- Both arms of a select are read, and the indexes of a call. A pixel reads what the expression reads that gives it,
-- and what the left sides of its Func's updates read at every point of their reduction boxes, with the arguments in
-- place as in the pixel's own point.
-- This project's own.
use Rattle.std.specs.Prelude.{◌≡◌, ℕ, zero, suc, ◌<◌, ◌==◌, Bool, true, if◌then◌else◌, List, [], ◌∷◌, ◌++◌, length, slice_get, Option, Some, None}
use Rattle.std.specs.List.{AllByRecursion}
use Rattle.halide_pipeline.specs.declared.expressions.Expr.{Expr, fold-Expr, map-Expr}
use Rattle.halide_pipeline.specs.declared.expressions.Expr.TheOpen.{Expr-F}
use Rattle.halide_pipeline.specs.declared.expressions.Expr.TheOpen as layer
use Rattle.halide_pipeline.specs.declared.expressions.Source.{Source}
use Rattle.halide_pipeline.specs.declared.expressions.Source.TheVariants as sources
use Rattle.halide_pipeline.specs.declared.definitions.Update.{Update}
use Rattle.halide_pipeline.specs.declared.definitions.Func.{Func}
use Rattle.halide_pipeline.specs.declared.environments.Environment.{Environment}
use Rattle.halide_pipeline.specs.Pixel.{Plane, Planes, Reads, value, value_at, reads_of, with_plane, at_point, at_reduction, points, is_hit, after, stage}
use Rattle.halide_pipeline.specs.Pixel.{pixels}

-- a point of a source
pub record Point : Type 0 where
  pub source : Source
  pub x : ℕ
  pub y : ℕ

-- ---- an expression

-- a part's value, and the points that it reads
pub record Seen : Type 0 where
  pub value : ℕ
  pub points : List Point

-- a call reads its point after those of its indexes
abbrev pub points_at : Expr-F Seen → List Point
points_at (layer.Number n) = []
points_at (layer.Variable v) = []
points_at (layer.Binary operation a b) = a.points ++ b.points
points_at (layer.Divide a c) = a.points
points_at (layer.Remainder a c) = a.points
points_at (layer.Select c a b) = c.points ++ (a.points ++ b.points)
points_at (layer.Call1 source x) = x.points ++ (record { source = source; x = x.value; y = 0 } ∷ [])
points_at (layer.Call2 source x y) = (x.points ++ y.points) ++ (record { source = source; x = x.value; y = y.value } ∷ [])

abbrev pub seen_at : Reads → Environment → Expr-F Seen → Seen
seen_at reads environment e = record { value = value_at reads environment (map-Expr Seen ℕ (λ part. part.value) e); points = points_at e }

-- an expression's value and the points that it reads, under reads that answer so, and variables that have these values
unfoldable pub seen : Reads → Environment → Expr → Seen
seen reads environment e = fold-Expr Seen (seen_at reads environment) e

abbrev pub points_read : Reads → Environment → Expr → List Point
points_read reads environment e = (seen reads environment e).points

-- an index that isn't written reads nothing
abbrev pub index_points : Reads → Environment → Option Expr → List Point
index_points reads environment None = []
index_points reads environment (Some index) = points_read reads environment index

abbrev pub left_points : Reads → Environment → Update → List Point
left_points reads environment update = points_read reads environment update.left_x ++ index_points reads environment update.left_y

-- ---- a pixel

-- what the pixels of each Func read
abbrev pub Trace : Type 0
Trace = ℕ → ℕ → ℕ → List Point

-- no Func reads anything
abbrev pub untraced : Trace
untraced place x y = []

-- the Func at this place reads so, all others as before
abbrev pub with_trace : ℕ → (ℕ → ℕ → List Point) → Trace → Trace
with_trace func_index trace traces place = if place == func_index then trace else traces place

-- inputs read nothing
abbrev pub trace_of : Trace → Source → ℕ → ℕ → List Point
trace_of traces (sources.Input place) x y = []
trace_of traces (sources.Func place) x y = traces place x y

-- points, and what the pixels there read
abbrev pub traced : Trace → List Point → List Point
traced traces [] = []
traced traces (point ∷ others) = point ∷ (trace_of traces point.source point.x point.y ++ traced traces others)

-- what the left sides of an update read at its first this many points, the arguments in place as in the point
unfoldable pub left_trace : Update → Planes → Planes → Trace → ℕ → ℕ → ℕ → List Point
left_trace update inputs earlier traces zero x y = []
left_trace update inputs earlier traces (suc number) x y =
    traced traces (left_points (reads_of inputs earlier) (at_reduction update number x y) update)
    ++ left_trace update inputs earlier traces number x y

-- What the pixels read that stand after this many points of an update: the left sides at these points; and where the
-- last point is a hit, the right side, whose reads of the own Func find what was then, else what the pixel reads
-- that was before.
unfoldable pub after_trace : ℕ → Update → Planes → Planes → Trace → Plane → (ℕ → ℕ → List Point) → ℕ → ℕ → ℕ → List Point
after_trace func_index update inputs earlier traces before trace zero x y = trace x y
after_trace func_index update inputs earlier traces before trace (suc number) x y =
    traced traces (left_points (reads_of inputs earlier) (at_reduction update number x y) update)
    ++ (if is_hit (reads_of inputs earlier) update (at_reduction update number x y)
    then left_trace update inputs earlier traces number x y
    ++ traced (with_trace func_index (after_trace func_index update inputs earlier traces before trace number) traces)
    (points_read (reads_of inputs (with_plane func_index (after func_index update inputs earlier before number) earlier)) (at_reduction update number x y) update.right)
    else after_trace func_index update inputs earlier traces before trace number x y)

-- the same of an update that may be missing, after all its points
abbrev pub after_all_trace : ℕ → Option Update → Planes → Planes → Trace → Plane → (ℕ → ℕ → List Point) → ℕ → ℕ → List Point
after_all_trace func_index None inputs earlier traces before trace = trace
after_all_trace func_index (Some update) inputs earlier traces before trace = after_trace func_index update inputs earlier traces before trace (points update)

-- what the pixels read that stand after this many whole updates
unfoldable pub stage_trace : ℕ → Func → Planes → Planes → Trace → ℕ → ℕ → ℕ → List Point
stage_trace func_index func inputs earlier traces zero x y = traced traces (points_read (reads_of inputs earlier) (at_point x y) func.pure)
stage_trace func_index func inputs earlier traces (suc updates) x y =
    after_all_trace func_index (slice_get func.updates updates) inputs earlier traces (stage func_index func inputs earlier updates) (stage_trace func_index func inputs earlier
    traces updates) x y

-- what the pixels read that stand after all updates; nothing where there is no Func
abbrev pub func_trace : ℕ → Option Func → Planes → Planes → Trace → ℕ → ℕ → List Point
func_trace func_index None inputs earlier traces x y = []
func_trace func_index (Some func) inputs earlier traces x y = stage_trace func_index func inputs earlier traces (length func.updates) x y

-- what the pixels of the first this many Funcs read, with all that these read in turn
unfoldable pub pixel_trace : List Func → Planes → ℕ → Trace
pixel_trace funcs inputs zero = untraced
pixel_trace funcs inputs (suc count) =
    with_trace count (func_trace count (slice_get funcs count) inputs (pixels funcs inputs count) (pixel_trace funcs inputs count)) (pixel_trace funcs inputs
    count)

-- what a pixel of the Func at a place reads itself, also where it was after fewer updates
abbrev pub direct_trace : List Func → Planes → Trace
direct_trace funcs inputs place = func_trace place (slice_get funcs place) inputs (pixels funcs inputs place) untraced

-- ---- what depends on what is read alone

-- two ways to answer reads agree at a point
abbrev pub AgreeAt : Reads → Reads → Point → Type 0
AgreeAt reads other point = other point.source point.x point.y ≡ reads point.source point.x point.y

abbrev pub Agree : Reads → Reads → List Point → Type 0
Agree reads other points = AllByRecursion (AgreeAt reads other) points

-- inputs agree at a point, if it is one of an input
abbrev pub InputsAgreeAt : Planes → Planes → Source → ℕ → ℕ → Type 0
InputsAgreeAt inputs other (sources.Input place) x y = other place x y ≡ inputs place x y
InputsAgreeAt inputs other (sources.Func place) x y = Unit {0}

abbrev pub InputsAgree : Planes → Planes → List Point → Type 0
InputsAgree inputs other points = AllByRecursion (λ point. InputsAgreeAt inputs other point.source point.x point.y) points

-- an expression's value is that which is seen
abbrev pub SeesValues : Type 0
SeesValues = (reads : Reads) (environment : Environment) (e : Expr) → (seen reads environment e).value ≡ value reads environment e

-- an expression's value depends on what it reads alone
abbrev pub ValuesDependOnReads : Type 0
ValuesDependOnReads = (reads other : Reads) (environment : Environment) (e : Expr)
    → Agree reads other (points_read reads environment e) → value other environment e ≡ value reads environment e

-- so does what is after this many updates, wherever the pixels of earlier Funcs come from
abbrev pub StagesDependOnReads : Type 0
StagesDependOnReads = (func_index : ℕ) (func : Func) (inputs earlier others planes : Planes) (traces : Trace)
    (updates x y : ℕ)
    → Agree (reads_of inputs earlier) (reads_of others planes)
    (stage_trace func_index func inputs earlier traces updates x y)
    → stage func_index func others planes updates x y ≡ stage func_index func inputs earlier updates x y

-- and a pixel depends on what is read of inputs alone
abbrev pub PixelsDependOnInputs : Type 0
PixelsDependOnInputs = (funcs : List Func) (inputs others : Planes) (count func_index x y : ℕ)
    → InputsAgree inputs others (pixel_trace funcs inputs count func_index x y) → pixels funcs others count func_index x y ≡ pixels funcs inputs count func_index x y

-- Points among which are those that each pixel of them reads itself have all that is read in turn.
abbrev pub Hold : (Point → Bool) → List Point → Type 0
Hold test points = AllByRecursion (λ point. test point ≡ true) points

abbrev pub IsClosed : List Func → Planes → (Point → Bool) → Type 0
IsClosed funcs inputs test = (func_index x y : ℕ) → test (record { source = sources.Func func_index; x = x; y = y }) ≡
    true
    → Hold test (direct_trace funcs inputs func_index x y)

abbrev pub ClosedPointsHoldReads : Type 0
ClosedPointsHoldReads = (funcs : List Func) (inputs : Planes) (test : Point → Bool) → IsClosed funcs inputs test → (count func_index x y : ℕ)
    → test (record { source = sources.Func func_index; x = x; y = y }) ≡ true → Hold test (pixel_trace funcs inputs count func_index x y)

-- Each definition of the Func at this place reads points that pass, where the point passes that it is made for: the pure
-- definition, the left sides of updates at each point of their reduction boxes, and their right sides where the left
-- side is the point.
pub record ReadsHold (test : Point → Bool) (func_index : ℕ) (func : Func) (inputs earlier : Planes) : Type 0 where
  pub pure : (x y : ℕ) → test (record { source = sources.Func func_index; x = x; y = y }) ≡ true
      → Hold test (points_read (reads_of inputs earlier) (at_point x y) func.pure)
  pub left : (at : ℕ) (update : Update) → slice_get func.updates at ≡ Some update → (number x y : ℕ) → number < points update
      → test (record { source = sources.Func func_index; x = x; y = y }) ≡ true
      → Hold test (left_points (reads_of inputs earlier) (at_reduction update number x y) update)
  pub right : (at : ℕ) (update : Update) → slice_get func.updates at ≡ Some update → (number x y : ℕ) → number < points update
      → test (record { source = sources.Func func_index; x = x; y = y }) ≡ true → is_hit (reads_of inputs earlier) update (at_reduction update number x y) ≡ true
      → Hold test (points_read (reads_of inputs (with_plane func_index (after func_index update inputs earlier (stage func_index func inputs earlier at) number) earlier))
      (at_reduction update number x y) update.right)

-- Then all that its pixels read themselves passes.
abbrev pub DefinitionsHoldReads : Type 0
DefinitionsHoldReads = (test : Point → Bool) (funcs : List Func) (inputs : Planes) (func_index : ℕ) (func : Func) → slice_get funcs func_index ≡ Some func
    → ReadsHold test func_index func inputs (pixels funcs inputs func_index) → (x y : ℕ) → test (record { source = sources.Func func_index; x = x; y = y }) ≡ true
    → Hold test (direct_trace funcs inputs func_index x y)
