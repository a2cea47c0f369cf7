-- Boxes of sources: which points of an input or a Func are read or computed.
--
-- A box is a range for each dimension, the second one 0 to 0 where there is one dimension. The box of a Func that is computed at a
-- loop is that of one iteration: its ranges have bases over the loops of the consumer, the Func whose loop it is, and `lasts` has the
-- greatest value of each of these. All other boxes have no base.
-- This project's own.
use Rattle.std.specs.Prelude.{◌≡◌, ℕ, ◌+◌, ◌-◌, ◌^◌, ◌&&◌, nat_le, Bool, true, if◌then◌else◌, List, [], ◌∷◌, Option, Some, None, ◌==◌, false}
use Rattle.std.specs.List.{AllByRecursion}
use Rattle.halide_pipeline.specs.declared.expressions.Source.{Source}
use Rattle.bounds_ranges.specs.declared.expressions.ReadRange.{ReadRange}
use Rattle.bounds_ranges.specs.declared.ranges.Ends.{Ends}
use Rattle.bounds_ranges.specs.declared.ranges.Range.{Range}
use Rattle.bounds_ranges.specs.Ranges.{no_base, every, ends_of, fit, IsFit, widened, together, hull}
use Rattle.bounds_ranges.specs.Numbers.{origin}
use Rattle.bounds.specs.declared.boxes.ConsumerLoop.{ConsumerLoop}
use Rattle.bounds.specs.declared.boxes.SourceBox.{SourceBox}
use Rattle.bounds.specs.declared.boxes.Spread.{Spread}
use Rattle.halide_pipeline.specs.declared.expressions.Source.TheVariants as sources

-- ---- Sources told apart.

abbrev pub same_source : Source → Source → Bool
same_source (sources.Input a) (sources.Input b) = a == b
same_source (sources.Func a) (sources.Func b) = a == b
same_source _ _ = false

-- ---- boxes

-- the greatest values of loops that aren't there
abbrev pub no_loops : List ℕ
no_loops = 0 ∷ 0 ∷ 0 ∷ 0 ∷ 0 ∷ []

-- ---- A box stays within -2^24 to 2^24, whatever the values of the loops.

abbrev pub are_near : Ends → Bool
are_near ends = nat_le (origin - 2 ^ 24) ends.low && nat_le ends.high (origin + 2 ^ 24)

abbrev pub is_near : SourceBox → Bool
is_near source_box = are_near (widened source_box.lasts source_box.x) && are_near
    (widened source_box.lasts source_box.y)

-- what boxes keep
pub record IsBox (source_box : SourceBox) : Type 0 where
  pub x : IsFit source_box.lasts source_box.x
  pub y : IsFit source_box.lasts source_box.y
  pub near : is_near source_box ≡ true

abbrev pub IsBoxOrNone : Option SourceBox → Type 0
IsBoxOrNone None = Unit {0}
IsBoxOrNone (Some own) = IsBox own

-- ---- boxes one in front of the other, each of which stays within -2^24 to 2^24

abbrev pub stays : Option SourceBox → Bool
stays None = true
stays (Some own) = is_near own

abbrev pub AreBoxes : List (Option SourceBox) → Type 0
AreBoxes boxes = AllByRecursion IsBoxOrNone boxes

abbrev pub in_front : Option SourceBox → List (Option SourceBox) → Option (List (Option SourceBox))
in_front source_box later_boxes = if stays source_box then Some (source_box ∷ later_boxes) else None

-- ---- A box is the hull of all ranges in which its source is read. Each dimension is alone. For a Func at a loop all ranges
-- are widened first if any two of them differ in base; for all others each range is widened.

-- the greatest values of the loops of a box's bases
abbrev pub lasts_of : Option ConsumerLoop → List ℕ
lasts_of None = no_loops
lasts_of (Some consumer) = consumer.lasts

-- A range that is asked by a reader with these loops, as one over the loops of the source's consumer. All that read a Func at a loop
-- have its consumer's loops, so nothing is lost.
abbrev pub taken_over : Option ConsumerLoop → List ℕ → Range → Range
taken_over None lasts range = fit no_loops no_base (widened lasts range)
taken_over (Some consumer) lasts range = fit consumer.lasts range.base (ends_of range)

-- What has no two ends in order, as no range of an expression does, would count as every word.
abbrev pub taken : Option ConsumerLoop → List ℕ → Range → Range
taken consumer lasts range = if nat_le range.low range.high then taken_over consumer lasts range else every

abbrev pub with_range : List ℕ → Option Range → Range → Range
with_range lasts None range = range
with_range lasts (Some own) range = together lasts hull own range

abbrev pub joined : List ℕ → Bool → Option Range → Range → Option Range
joined lasts counts own_range range = if counts then Some (with_range lasts own_range range) else own_range

-- with one read, of whose dimensions these count
abbrev pub with_read : Option ConsumerLoop → List ℕ → Bool → Bool → Spread → ReadRange → Spread
with_read consumer lasts first second spread read = record {
  x = joined (lasts_of consumer) first spread.x (taken consumer lasts read.x);
  y = joined (lasts_of consumer) second spread.y (taken consumer lasts read.y);
}

-- with all reads of the source among these
abbrev pub gathered : Option ConsumerLoop → List ℕ → Source → Bool → Bool → Spread → List ReadRange → Spread
gathered consumer lasts source first second spread [] = spread
gathered consumer lasts source first second spread (read ∷ others) =
    gathered consumer lasts source first second (if same_source read.source source then with_read consumer lasts first second spread read else spread) others

-- nothing is read yet
abbrev pub no_spread : Spread
no_spread = record { x = None; y = None }

abbrev pub box_with : List ℕ → Range → Option Range → Option SourceBox
box_with lasts x None = None
box_with lasts x (Some y) = Some (record { x = x; y = y; lasts = lasts })

abbrev pub box_of : List ℕ → Option Range → Option Range → Option SourceBox
box_of lasts None y = None
box_of lasts (Some x) y = box_with lasts x y

-- the box of what is read, if anything is
abbrev pub spread_box : Option ConsumerLoop → Spread → Option SourceBox
spread_box consumer spread = box_of (lasts_of consumer) spread.x spread.y

-- ---- what is joined keeps to the words

abbrev pub IsFitOrNone : List ℕ → Option Range → Type 0
IsFitOrNone lasts None = Unit {0}
IsFitOrNone lasts (Some range) = IsFit lasts range

-- the ranges of a box
abbrev pub IsFitBox : Option SourceBox → Type 0
IsFitBox None = Unit {0}
IsFitBox (Some own) = IsFit own.lasts own.x × IsFit own.lasts own.y

pub record IsSpread (lasts : List ℕ) (spread : Spread) : Type 0 where
  pub x : IsFitOrNone lasts spread.x
  pub y : IsFitOrNone lasts spread.y
