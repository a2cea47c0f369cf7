-- Words that stand equally far apart. Nothing here is to be believed: the contract of `evaluate` doesn't speak of it.
-- This project's own.
use Rattle.std.specs.Prelude.{◌≡◌, ℕ, zero, suc, ◌+◌, ◌*◌, ◌<◌, ◌≤◌, ◌^◌, List, set, length, slice_index}
use Rattle.halide_pipeline.specs.Words as word
use Rattle.picture.specs.declared.scenes.Table.{Table}

-- a list in which the first this many values are stored, from an offset on, each so far after the one before it
unfoldable pub stored : List ℕ → ℕ → ℕ → ℕ → List ℕ → List ℕ
stored values from apart zero words = words
stored values from apart (suc count) words = set (stored values from apart count words) (from + count * apart) (slice_index values count)

-- a table has the pixel of a point at this offset
pub record IsOffset (table : Table) (x y offset : ℕ) : Type 0 where
  pub x_fits : x < 2 ^ 32
  pub y_fits : y < 2 ^ 32
  pub left_fits : table.left < 2 ^ 32
  pub top_fits : table.top < 2 ^ 32
  pub width_fits : table.width ≤ 2 ^ 32
  pub height_fits : table.height ≤ 2 ^ 32
  pub wide : word.subtract x table.left < table.width
  pub high : word.subtract y table.top < table.height
  pub is : offset ≡ word.subtract y table.top * table.pitch + word.subtract x table.left
  pub within : offset < length table.pixels.items

-- and so those of points one beside the other
pub record AreBeside (table : Table) (column line count from : ℕ) : Type 0 where
  pub each : (at : ℕ) → at < count → IsOffset table (word.add column at) line (from + at * 1)

-- or one below the other
pub record AreBelow (table : Table) (column line count from : ℕ) : Type 0 where
  pub each : (at : ℕ) → at < count → IsOffset table column (word.add line at) (from + at * table.pitch)
