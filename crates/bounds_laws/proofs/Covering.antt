-- What is gathered holds what was there, and all that lies in what is asked.
use Rattle.std.proofs.Common.{◌≡◌, ℕ, ◌≤◌, Bool, true, false, List, [], ◌∷◌, ◌++◌, Option, Some, None, refl, sym, ap, ◌∙◌, subst, arith}
use Rattle.std.specs.Prelude.{nat_le, if◌then◌else◌}
use Rattle.std.specs.List.{AllByRecursion}
use Rattle.std.proofs.lemmas.Bool.{leb-true, le-leb}
use Rattle.halide_pipeline.specs.declared.expressions.Source.{Source}
use Rattle.halide_pipeline.specs.Points.{Point}
use Rattle.bounds_ranges.specs.declared.expressions.ReadRange.{ReadRange}
use Rattle.bounds_ranges.specs.declared.ranges.Range.{Range}
use Rattle.bounds_ranges.specs.Ranges.{no_base, every, ends_of, IsFit, widened}
use Rattle.bounds_ranges.specs.Laws.{Below, Lies, LiesAt, AllLie}
use Rattle.bounds_ranges.proofs.Lying.{widened_stands, fit_lies, plain_lies}
use Rattle.bounds.specs.declared.boxes.ConsumerLoop.{ConsumerLoop}
use Rattle.bounds.specs.declared.boxes.Spread.{Spread}
use Rattle.bounds.specs.Boxes.{no_loops, lasts_of, taken_over, taken, joined, with_read, gathered, IsFitOrNone, IsSpread, same_source}
use Rattle.bounds_laws.specs.Laws.{values_for}
use Rattle.bounds_laws.proofs.Hulls.{every_fits, fit_fits, hull_fits, hull_first, hull_second}

-- ---- one range, over the loops of the consumer

fits_over : (consumer : Option ConsumerLoop) (lasts : List ℕ) (range : Range) → range.low ≤ range.high
    → IsFit (lasts_of consumer) (taken_over consumer lasts range)
fits_over None lasts range ordered = fit_fits no_loops no_base (widened lasts range) (omega (arith, ordered))
fits_over (Some consumer) lasts range ordered = fit_fits consumer.lasts range.base (ends_of range) ordered

taken_by : (consumer : Option ConsumerLoop) (lasts : List ℕ) (range : Range) (test : Bool) → nat_le range.low range.high ≡ test
    → IsFit (lasts_of consumer) (if test then taken_over consumer lasts range else every)
taken_by consumer lasts range true e = fits_over consumer lasts range (leb-true range.low range.high e)
taken_by consumer lasts range false e = every_fits (lasts_of consumer)

pub taken_fits : (consumer : Option ConsumerLoop) (lasts : List ℕ) (range : Range) → IsFit (lasts_of consumer) (taken consumer lasts range)
taken_fits consumer lasts range = taken_by consumer lasts range (nat_le range.low range.high) refl

-- ---- what is joined keeps to the words

joined_fits : (lasts : List ℕ) (counts : Bool) (own_range : Option Range) (range : Range) → IsFitOrNone lasts own_range → IsFit lasts range
    → IsFitOrNone lasts (joined lasts counts own_range range)
joined_fits lasts false own_range range fits other = fits
joined_fits lasts true None range fits other = other
joined_fits lasts true (Some own_range) range fits other = hull_fits lasts own_range range fits other

pub read_fits : (consumer : Option ConsumerLoop) (lasts : List ℕ) (first second : Bool) (spread : Spread) (read : ReadRange) → IsSpread (lasts_of consumer) spread
    → IsSpread (lasts_of consumer) (with_read consumer lasts first second spread read)
read_fits consumer lasts first second spread read fits = record {
  x = joined_fits (lasts_of consumer) first spread.x (taken consumer lasts read.x) fits.x (taken_fits consumer lasts read.x);
  y = joined_fits (lasts_of consumer) second spread.y (taken consumer lasts read.y) fits.y (taken_fits consumer lasts read.y);
}

pub next_fits : (consumer : Option ConsumerLoop) (lasts : List ℕ) (first second test : Bool) (spread : Spread) (read : ReadRange)
    → IsSpread (lasts_of consumer) spread
    → IsSpread (lasts_of consumer) (if test then with_read consumer lasts first second spread read else spread)
next_fits consumer lasts first second true spread read fits = read_fits consumer lasts first second spread read fits
next_fits consumer lasts first second false spread read fits = fits

pub gathered_fits : (consumer : Option ConsumerLoop) (lasts : List ℕ) (source : Source) (first second : Bool) (spread : Spread) (asked : List ReadRange)
    → IsSpread (lasts_of consumer) spread
    → IsSpread (lasts_of consumer) (gathered consumer lasts source first second spread asked)
gathered_fits consumer lasts source first second spread [] fits = fits
gathered_fits consumer lasts source first second spread (read ∷ others) fits =
    gathered_fits consumer lasts source first second (if same_source read.source source then with_read consumer lasts first second spread read else spread)
    others
    (next_fits consumer lasts first second (same_source read.source source) spread read fits)

-- ---- what lies there

abbrev pub IsIn : List ℕ → List ℕ → Option Range → ℕ → Type 0
IsIn lasts values None x = ⊥
IsIn lasts values (Some range) x = Lies lasts values range x

pub record InSpread (lasts values : List ℕ) (spread : Spread) (x y : ℕ) : Type 0 where
  pub first : IsIn lasts values spread.x x
  pub second : IsIn lasts values spread.y y

pub joined_keeps : (lasts values : List ℕ) → Below values lasts → (counts : Bool) (own_range : Option Range) (range : Range) (x : ℕ) → IsIn lasts values own_range x
    → IsIn lasts values (joined lasts counts own_range range) x
joined_keeps lasts values below false own_range range x lies = lies
joined_keeps lasts values below true None range x lies = absurd lies
joined_keeps lasts values below true (Some own_range) range x lies = hull_first lasts values below own_range range x
    lies

pub joined_takes : (lasts values : List ℕ) → Below values lasts → (own_range : Option Range) (range : Range) (x : ℕ) → IsFitOrNone lasts own_range
    → Lies lasts values range x → IsIn lasts values (joined lasts true own_range range) x
joined_takes lasts values below None range x fits lies = lies
joined_takes lasts values below (Some own_range) range x fits lies = hull_second lasts values below own_range range x
    fits lies

-- a list of points, of which those of the source lie there
abbrev pub HoldsAll : List ℕ → List ℕ → Source → Spread → List Point → Type 0
HoldsAll lasts values source spread points = AllByRecursion (λ point. same_source point.source source ≡ true → InSpread lasts values spread point.x point.y)
    points

pub holds_more : (lasts values : List ℕ) (source : Source) (spread other : Spread) → ((x y : ℕ) → InSpread lasts values spread x y
    → InSpread lasts values other x y)
    → (points : List Point) → HoldsAll lasts values source spread points → HoldsAll lasts values source other points
holds_more lasts values source spread other keeps [] all = tt
holds_more lasts values source spread other keeps (point ∷ points) all = (
  λ e. keeps point.x point.y (all.0 e),
  holds_more lasts values source spread other
      keeps points all.1,
)

module _ (consumer : Option ConsumerLoop) (lasts values : List ℕ) (below : Below (values_for consumer values) (lasts_of consumer)) where
  next_keeps : (first second test : Bool) (spread : Spread) (read : ReadRange) (x y : ℕ) → InSpread (lasts_of consumer) (values_for consumer values) spread x y
      → InSpread (lasts_of consumer) (values_for consumer values) (if test then with_read consumer lasts first second spread read else spread) x y
  next_keeps first second true spread read x y lies = record {
    first = joined_keeps (lasts_of consumer) (values_for consumer values) below first spread.x (taken consumer lasts read.x) x lies.first;
    second = joined_keeps (lasts_of consumer) (values_for consumer values) below second spread.y (taken consumer lasts read.y) y lies.second;
  }
  next_keeps first second false spread read x y lies = lies

  pub gathered_keeps : (source : Source) (first second : Bool) (spread : Spread) (asked : List ReadRange) (x y : ℕ)
      → InSpread (lasts_of consumer) (values_for consumer values) spread x y
      → InSpread (lasts_of consumer) (values_for consumer values) (gathered consumer lasts source first second spread asked) x y
  gathered_keeps source first second spread [] x y lies = lies
  gathered_keeps source first second spread (read ∷ others) x y lies =
      gathered_keeps source first second (if same_source read.source source then with_read consumer lasts first second spread read else spread) others x y
      (next_keeps first second (same_source read.source source) spread read x y lies)

pub gathered_both : (consumer : Option ConsumerLoop) (lasts : List ℕ) (source : Source) (first second : Bool) (spread : Spread) (some more : List ReadRange)
    → gathered consumer lasts source first second spread (some ++ more) ≡ gathered consumer lasts source first second (gathered consumer lasts source first
    second spread some) more
gathered_both consumer lasts source first second spread [] more = refl
gathered_both consumer lasts source first second spread (read ∷ others) more =
    gathered_both consumer lasts source first second (if same_source read.source source then with_read consumer lasts first second spread read else spread)
    others more

-- ---- what is asked lies in what is gathered

lies_over : (consumer : Option ConsumerLoop) (lasts values : List ℕ) → Below values lasts → Below (values_for consumer values) (lasts_of consumer)
    → (range : Range) (x : ℕ) → Lies lasts values range x
    → Lies (lasts_of consumer) (values_for consumer values) (taken_over consumer lasts range) x
lies_over None lasts values own below range x lies =
    let stands = widened_stands lasts values own range x lies in
    plain_lies no_loops no_loops below (widened lasts range) x lies.word (λ l h. (stands.low, stands.high))
lies_over (Some consumer) lasts values own below range x lies = fit_lies consumer.lasts values below range.base (ends_of range) x lies.word
    (λ l h. (lies.low, lies.high))

pub taken_lies : (consumer : Option ConsumerLoop) (lasts values : List ℕ) → Below values lasts → Below (values_for consumer values) (lasts_of consumer)
    → (range : Range) (x : ℕ) → Lies lasts values range x
    → Lies (lasts_of consumer) (values_for consumer values) (taken consumer lasts range) x
taken_lies consumer lasts values own below range x lies =
    subst (λ (test : Bool). Lies (lasts_of consumer) (values_for consumer values) (if test then taken_over consumer lasts range else every) x)
    (sym (le-leb range.low range.high (omega (arith, lies.low, lies.high))))
    (lies_over consumer lasts values own below range x lies)

read_takes : (consumer : Option ConsumerLoop) (lasts values : List ℕ) → Below values lasts → Below (values_for consumer values) (lasts_of consumer)
    → (spread : Spread) (read : ReadRange) (point : Point)
    → IsSpread (lasts_of consumer) spread → LiesAt lasts values read point
    → InSpread (lasts_of consumer) (values_for consumer values) (with_read consumer lasts true true spread read) point.x point.y
read_takes consumer lasts values own below spread read point fits lies = record {
  first = joined_takes (lasts_of consumer) (values_for consumer values) below spread.x (taken consumer lasts read.x) point.x fits.x (taken_lies consumer lasts
      values own below read.x point.x lies.x);
  second = joined_takes (lasts_of consumer) (values_for consumer values) below spread.y (taken consumer lasts read.y) point.y fits.y (taken_lies consumer lasts
      values own below read.y point.y lies.y);
}

pub gathered_takes : (consumer : Option ConsumerLoop) (lasts values : List ℕ) → Below values lasts → Below (values_for consumer values) (lasts_of consumer)
    → (source : Source) (spread : Spread) (asked : List ReadRange) (points : List Point)
    → IsSpread (lasts_of consumer) spread → AllLie lasts values asked points
    → HoldsAll (lasts_of consumer) (values_for consumer values) source (gathered consumer lasts source true true spread asked) points
gathered_takes consumer lasts values own below source spread [] [] fits all = tt
gathered_takes consumer lasts values own below source spread [] (point ∷ points) fits all = absurd all
gathered_takes consumer lasts values own below source spread (read ∷ others) [] fits all = absurd all
gathered_takes consumer lasts values own below source spread (read ∷ others) (point ∷ points) fits all = (
  λ e.
      gathered_keeps consumer lasts values below source true true (if same_source read.source source then with_read consumer lasts true true spread read
      else spread) others point.x point.y
      (subst (λ (test : Bool). InSpread (lasts_of consumer) (values_for consumer values) (if test then with_read consumer lasts true true spread read
      else spread) point.x point.y)
      (sym e ∙ ap (λ (s : Source). same_source s source) all.0.source)
      (read_takes consumer lasts values own below spread read point fits all.0)),
  gathered_takes consumer lasts values own below source (if same_source read.source source then with_read consumer lasts true true spread read else spread)
      others points
      (next_fits consumer lasts true true (same_source read.source source) spread read fits) all.1,
)
