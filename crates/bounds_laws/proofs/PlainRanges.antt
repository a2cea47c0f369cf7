-- What has no base: what lies in such a range lies there whatever values loops have.
use Rattle.std.proofs.Common.{◌≡◌, ℕ, ◌*◌, List, [], ◌∷◌, refl, ap, ◌∙◌, arith}
use Rattle.halide_pipeline.specs.Points.{Point}
use Rattle.bounds_ranges.specs.declared.bases.Multiple.{Multiple}
use Rattle.bounds_ranges.specs.declared.expressions.ReadRange.{ReadRange}
use Rattle.bounds_ranges.specs.declared.ranges.Range.{Range}
use Rattle.bounds_ranges.specs.Ranges.{cut, zero_multiple, times_multiple, no_base, add_base, negated, times_base, more_sum, less_sum}
use Rattle.bounds_ranges.specs.Laws.{Lies, AllLie}
use Rattle.bounds_ranges.proofs.Sums.{no_more, no_less}
use Rattle.bounds.specs.Boxes.{no_loops}
use Rattle.bounds_laws.proofs.HeldBases.{IsClosed, AreHeld}

-- no base
abbrev pub IsNone : List Multiple → Type 0
IsNone base = base ≡ no_base

zero_times : (n : ℕ) → times_multiple n zero_multiple ≡ zero_multiple
zero_times n = let z : 0 * n ≡ 0 = omega arith in ap (λ (k : ℕ). record { more = cut k; less = cut k }) z

none_times : (n : ℕ) → times_base n no_base ≡ no_base
none_times n = ap (λ (m : Multiple). m ∷ m ∷ m ∷ m ∷ m ∷ []) (zero_times n)

pub none_closed : IsClosed IsNone
none_closed = record {
  none = refl;
  added = λ a b ea eb. ap (λ (l : List Multiple). add_base l b) ea ∙ ap (λ (l : List Multiple). add_base no_base l) eb;
  opposite = λ a ea. ap negated ea;
  times = λ n a ea. ap (times_base n) ea ∙ none_times n;
}

pub lies_under : (lasts values : List ℕ) (range : Range) (x : ℕ) → IsNone range.base → Lies no_loops no_loops range x → Lies lasts values range x
lies_under lasts values range x plain lies =
    let more : (l : List ℕ) → more_sum range.base l ≡ 0 = λ l. ap (λ (b : List Multiple). more_sum b l) plain ∙ no_more l in
    let less : (l : List ℕ) → less_sum range.base l ≡ 0 = λ l. ap (λ (b : List Multiple). less_sum b l) plain ∙ no_less l in
    record {
      word = lies.word;
      low = omega (arith, lies.low, more no_loops, less no_loops, more values, less values);
      high = omega (arith, lies.high, more no_loops, less no_loops, more values, less values);
      fits_low = omega (arith, lies.fits_low, less lasts);
      fits_high = omega (arith, lies.fits_high, more lasts);
    }

pub all_under : (lasts values : List ℕ) (asked : List ReadRange) (points : List Point) → AreHeld IsNone asked → AllLie no_loops no_loops asked points
    → AllLie lasts values asked points
all_under lasts values [] [] plain all = tt
all_under lasts values [] (point ∷ points) plain all = absurd all
all_under lasts values (read ∷ asked) [] plain all = absurd all
all_under lasts values (read ∷ asked) (point ∷ points) plain all = (
  record { source = all.0.source; x = lies_under lasts values read.x point.x plain.0.0 all.0.x; y = lies_under lasts values read.y point.y plain.0.1 all.0.y },
  all_under lasts values asked points plain.1 all.1,
)
