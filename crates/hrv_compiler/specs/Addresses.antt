-- What the layout of boxes that were inferred keeps: its numbers are addresses of words of 32 bits, and boxes have few points.
-- This project's own.
use Rattle.std.specs.Prelude.{◌<◌, ◌≤◌, ℕ, ◌*◌, ◌^◌, List, Option, Some, None}
use Rattle.std.specs.List.{AllByRecursion}
use Rattle.halide_pipeline.specs.WellFormed.{most_points}
use Rattle.bounds.specs.declared.boxes.SourceBox.{SourceBox}
use Rattle.bounds.specs.declared.layout.Layout.{Layout}
use Rattle.bounds.specs.Extents.{points}

abbrev pub IsAddress : ℕ → Type 0
IsAddress at = at < 2 ^ 32

unfoldable pub AreAddresses : List ℕ → Type 0
AreAddresses ats = AllByRecursion IsAddress ats

abbrev pub HasFewPoints : Option SourceBox → Type 0
HasFewPoints None = Unit {0}
HasFewPoints (Some own) = points own ≤ most_points

unfoldable pub HaveFewPoints : List (Option SourceBox) → Type 0
HaveFewPoints boxes = AllByRecursion HasFewPoints boxes

-- all that a layout says lies below 2^32
pub record LiesLow (layout : Layout) : Type 0 where
  pub inputs : AreAddresses layout.inputs
  pub roots : AreAddresses layout.roots
  pub privates : AreAddresses layout.privates
  pub frames : layout.frames < 2 ^ 32
  pub size : layout.size ≤ 33554432
  pub phases : 8 * layout.phases ≤ layout.size
