-- Each value lies in its range.
-- This project's own.
use Rattle.std.specs.Prelude.{◌≡◌, ℕ, ◌+◌, ◌^◌, ◌<◌, ◌≤◌, Bool, true, List, [], ◌∷◌, slice_get, Some}
use Rattle.halide_pipeline.specs.declared.definitions.Func.{Func}
use Rattle.halide_pipeline.specs.declared.definitions.Input.{Input}
use Rattle.halide_pipeline.specs.declared.definitions.Update.{Update}
use Rattle.halide_pipeline.specs.declared.expressions.Expr.{Expr}
use Rattle.halide_pipeline.specs.declared.expressions.Source.{Source}
use Rattle.halide_pipeline.specs.declared.expressions.Source.TheVariants as sources
use Rattle.halide_pipeline.specs.declared.expressions.Variable.{Variable}
use Rattle.halide_pipeline.specs.WellFormed.{keeps, is_read}
use Rattle.halide_pipeline.specs.declared.environments.Environment.{Environment}
use Rattle.halide_pipeline.specs.Pixel.{Planes, Reads, variable, reads_of, pixels, stage, after}
use Rattle.halide_pipeline.specs.Points.{Point, Seen}
use Rattle.bounds_inlining.specs.Inlining.{inlined}
use Rattle.bounds_inlining.specs.Values.{seeing}
use Rattle.bounds_inlining.specs.Laws.{AreFuncs, seen_variable}
use Rattle.bounds_ranges.specs.declared.expressions.ReadRange.{ReadRange}
use Rattle.bounds_ranges.specs.declared.expressions.OwnCalls.{OwnCalls}
use Rattle.bounds_ranges.specs.declared.ranges.Range.{Range}
use Rattle.bounds_ranges.specs.Ranges.{more_sum, less_sum}
use Rattle.bounds_ranges.specs.Numbers.{least, greatest, spot}
use Rattle.bounds_ranges.specs.Expressions.{Ranged, ranged, ranged_update, ranges_where}

-- Each loop has a value up to its greatest.
abbrev pub Below : List ℕ → List ℕ → Type 0
Below [] [] = Unit {0}
Below [] (l ∷ lasts) = ⊥
Below (v ∷ values) [] = ⊥
Below (v ∷ values) (l ∷ lasts) = (v ≤ l) × Below values lasts

-- Under these values of the loops the word lies between base + low and base + high, as signed numbers, and no values
-- of the loops take the range out of the words.
pub record Lies (lasts values : List ℕ) (range : Range) (x : ℕ) : Type 0 where
  pub word : x < 2 ^ 32
  pub low : range.low + more_sum range.base values ≤ spot x + less_sum range.base values
  pub high : spot x + less_sum range.base values ≤ range.high + more_sum range.base values
  pub fits_low : least + less_sum range.base lasts ≤ range.low
  pub fits_high : range.high + more_sum range.base lasts ≤ greatest

-- A point is one of the source, and its coordinates lie in these ranges.
pub record LiesAt (lasts values : List ℕ) (asked : ReadRange) (point : Point) : Type 0 where
  pub source : point.source ≡ asked.source
  pub x : Lies lasts values asked.x point.x
  pub y : Lies lasts values asked.y point.y

-- Each point lies in the ranges in its place.
abbrev pub AllLie : List ℕ → List ℕ → List ReadRange → List Point → Type 0
AllLie lasts values [] [] = Unit {0}
AllLie lasts values [] (point ∷ points) = ⊥
AllLie lasts values (first ∷ asked) [] = ⊥
AllLie lasts values (first ∷ asked) (point ∷ points) = LiesAt lasts values first point × AllLie lasts values asked points

-- The value and the points that are seen lie in these ranges.
pub record Covers (lasts values : List ℕ) (r : Ranged) (s : Seen) : Type 0 where
  pub value : Lies lasts values r.range s.value
  pub points : AllLie lasts values r.asked s.points

-- The pixel at each point, whose coordinates are words, is a word, and each of an input of bytes is a byte.
pub record AnswerWords (inputs : List Input) (reads : Reads) : Type 0 where
  pub words : (s : Source) (x y : ℕ) → x < 2 ^ 32 → y < 2 ^ 32 → reads s x y < 2 ^ 32
  pub bytes : (func_index : ℕ) (input : Input) → slice_get inputs func_index ≡ Some input → input.is_bytes ≡ true → (x y : ℕ) → reads (sources.Input func_index) x y < 256

-- Through inlined Funcs the value of an expression of a pipeline lies in its range, and each point that it reads lies
-- in ranges that are asked.
abbrev pub RangesCover : Type 0
RangesCover = (lasts values : List ℕ) → Below values lasts → (reads : Reads) (inputs : List Input) → AnswerWords inputs reads
    → (is_inlined : ℕ → Bool) (funcs : List Func) → AreFuncs inputs funcs
    → (count : ℕ) (has : Variable → Bool) (ranges : Variable → Range) (environment : Environment)
    → ((v : Variable) → has v ≡ true → Lies lasts values (ranges v) (variable environment v))
    → (e : Expr) → keeps (is_read inputs funcs count) has e ≡ true
    → Covers lasts values (ranged lasts inputs is_inlined funcs count ranges e) (inlined (seeing reads) is_inlined funcs count (seen_variable environment) e)

-- So it is in an update, where the arguments also lie from -2^24 to 2^24, both where they may be anywhere and where
-- not.
abbrev pub UpdateRangesCover : Type 0
UpdateRangesCover = (lasts values : List ℕ) → Below values lasts → (reads : Reads) (inputs : List Input) → AnswerWords inputs reads
    → (is_inlined : ℕ → Bool) (funcs : List Func) → AreFuncs inputs funcs
    → (count : ℕ) (own_calls : OwnCalls) (has : Variable → Bool) (ranges : Variable → Range) (environment : Environment)
    → ((around : Bool) (v : Variable) → has v ≡ true → Lies lasts values (ranges_where lasts ranges around v) (variable environment v))
    → (e : Expr) → keeps (is_read inputs funcs count) has e ≡ true → (around : Bool)
    → Covers lasts values (ranged_update lasts inputs is_inlined funcs count own_calls ranges e around) (inlined (seeing reads) is_inlined funcs count
    (seen_variable environment) e)

-- ---- pixels

-- Where the inputs answer words, so do all pixels.
abbrev pub PixelsAreWords : Type 0
PixelsAreWords = (inputs : List Input) (funcs : List Func) (planes : Planes) → AreFuncs inputs funcs
    → AnswerWords inputs (reads_of planes (pixels funcs planes 0))
    → (count : ℕ) → AnswerWords inputs (reads_of planes (pixels funcs planes count))

-- And what is after some points of an update are words.
abbrev pub StagesAreWords : Type 0
StagesAreWords = (inputs : List Input) (funcs : List Func) (planes : Planes) → AreFuncs inputs funcs
    → (func_index : ℕ) (func : Func) → slice_get funcs func_index ≡ Some func → AnswerWords inputs (reads_of planes (pixels funcs planes func_index))
    → (at : ℕ) (update : Update) → slice_get func.updates at ≡ Some update → (number x y : ℕ) → x < 2 ^ 32 → y < 2 ^ 32
    → after func_index update planes (pixels funcs planes func_index) (stage func_index func planes (pixels funcs planes func_index) at) number x y < 2 ^ 32
