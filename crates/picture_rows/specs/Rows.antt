-- Rows of words: the values of an expression at places one beside the other. This project's own.
use Rattle.std.specs.Prelude.{◌≡◌, ◌<◌, ◌≤◌, ◌^◌, ℕ, List, length, slice_index}
use Rattle.halide_pipeline.specs.Words as word
use Rattle.picture_rows.specs.declared.rows.Row.{Row}
use Rattle.picture_rows.specs.declared.clamps.Clamp.{Clamp}
use Rattle.picture_rows.specs.declared.windows.Window.{Window}
use Rattle.picture_rows.specs.declared.rows.Row.TheVariants as rows

-- these are the values at this many places
pub record AreValues (width : ℕ) (says : ℕ → ℕ) (values : List ℕ) : Type 0 where
  pub len : length values ≡ width
  pub each : (at : ℕ) → at < width → slice_index values at ≡ says at

-- the word at a place, from the first one on, taken to the nearer one of two bounds that it lies outside of
abbrev pub clamped : Clamp → ℕ → ℕ
clamped clamp at = word.minimum (word.maximum (word.add clamp.first at) clamp.low) clamp.high

-- the value at a place
abbrev pub value_at : Row → ℕ → ℕ
value_at (rows.Same value) at = value
value_at (rows.Step first) at = word.add first at
value_at (rows.Clamped clamp) at = clamped clamp at
value_at (rows.Each values) at = slice_index values.items at

-- where each value is written down, there are this many
abbrev pub HasLength : ℕ → Row → Type 0
HasLength width (rows.Same value) = Unit {0}
HasLength width (rows.Step first) = Unit {0}
HasLength width (rows.Clamped clamp) = Unit {0}
HasLength width (rows.Each values) = length values.items ≡ width

-- A row has these values at this many places.
pub record IsRow (width : ℕ) (says : ℕ → ℕ) (row : Row) : Type 0 where
  pub len : HasLength width row
  pub each : (at : ℕ) → at < width → value_at row at ≡ says at

-- The words of a window are those that a row has in its columns. (There are fewer than words are numbers.)
pub record IsWindow (says : ℕ → ℕ) (window : Window) : Type 0 where
  pub few : length window.values.now ≤ 2 ^ 32
  pub each : (at : ℕ) → at < length window.values.now → slice_index window.values.now at ≡ says (word.add window.first at)

-- a window has the words in all these columns
pub record Covers (window : Window) (columns : List ℕ) : Type 0 where
  pub each : (at : ℕ) → at < length columns
      → (slice_index columns at < 2 ^ 32) × (word.subtract (slice_index columns at) window.first < length window.values.now)
