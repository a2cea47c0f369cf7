-- Boxes that stay within -2^24 to 2^24 are short.
use Rattle.std.proofs.Common.{◌≡◌, ℕ, ◌+◌, ◌-◌, ◌^◌, ◌≤◌, true, List, Option, Some, None, arith}
use Rattle.std.specs.Prelude.{nat_le}
use Rattle.std.proofs.lemmas.Bool.{and_parts, leb-true}
use Rattle.bounds_ranges.specs.declared.ranges.Range.{Range}
use Rattle.bounds_ranges.specs.Ranges.{IsFit, widened}
use Rattle.bounds_ranges.specs.Numbers.{origin}
use Rattle.bounds.specs.declared.boxes.SourceBox.{SourceBox}
use Rattle.bounds.specs.Boxes.{IsBox, IsBoxOrNone, IsFitBox, are_near, stays}

short : (lasts : List ℕ) (range : Range) → IsFit lasts range → are_near (widened lasts range) ≡ true → range.high ≤ range.low + 2 ^ 25
short lasts range fits near =
    let ends = widened lasts range in
    let parts = and_parts (nat_le (origin - 2 ^ 24) ends.low) (nat_le ends.high (origin + 2 ^ 24)) near in
    omega (arith, fits.low, fits.high, leb-true (origin - 2 ^ 24) ends.low parts.0, leb-true ends.high (origin + 2 ^ 24) parts.1)

pub short_x : (source_box : SourceBox) → IsBox source_box → source_box.x.high ≤ source_box.x.low + 2 ^ 25
short_x source_box is = short source_box.lasts source_box.x is.x (and_parts (are_near (widened source_box.lasts source_box.x)) (are_near (widened source_box.lasts source_box.y)) is.near).0

pub short_y : (source_box : SourceBox) → IsBox source_box → source_box.y.high ≤ source_box.y.low + 2 ^ 25
short_y source_box is = short source_box.lasts source_box.y is.y (and_parts (are_near (widened source_box.lasts source_box.x)) (are_near (widened source_box.lasts source_box.y)) is.near).1

pub is_box : (source_box : Option SourceBox) → IsFitBox source_box → stays source_box ≡ true → IsBoxOrNone source_box
is_box None fits near = tt
is_box (Some source_box) fits near = record { x = fits.0; y = fits.1; near = near }
