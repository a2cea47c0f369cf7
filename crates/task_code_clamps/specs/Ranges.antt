-- Between which numbers words lie, as signed numbers. This project's own.
use Rattle.std.specs.Prelude.{◌≡◌, ◌<◌, ◌≤◌, ℕ, ◌+◌, ◌%◌, ◌^◌}
use Rattle.halide_pipeline.specs.declared.expressions.Source.{Source}
use Rattle.halide_pipeline.specs.declared.expressions.Source.TheVariants as sources
use Rattle.task_code_scalar.specs.declared.layouts.Pixels.TheVariants.{Bytes}
use Rattle.task_code_scalar.specs.declared.layouts.Places.{Places}
use Rattle.task_code_scalar.specs.Code.{place_of}
use Rattle.task_code_clamps.specs.declared.ranges.LevelRange.{LevelRange}

-- how far a word lies above the least signed number
abbrev pub level : ℕ → ℕ
level word = (word + 2 ^ 31) % 2 ^ 32

-- a word's level is within the range
pub record LiesIn (range : LevelRange) (v : ℕ) : Type 0 where
  pub low : range.low ≤ level v
  pub high : level v ≤ range.high

-- an input's pixel is below 256, if the input holds bytes
abbrev pub IsByte : Places → Source → ℕ → Type 0
IsByte places (sources.Input place) v = (place_of places (sources.Input place)).pixels ≡ Bytes → v < 256
IsByte places (sources.Func place) v = Unit {0}
