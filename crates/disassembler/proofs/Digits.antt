-- Hexadecimal digits.
use Rattle.std.proofs.Common.{◌≡◌, ℕ, zero, suc, ◌-◌, ◌/◌, ◌%◌, ◌<◌, List, [], ◌∷◌, ◌++◌, refl, sym, ◌∙◌, append_assoc, arith}
use Rattle.std.proofs.lemmas.List.{append-nil}
use Rattle.disassembler.specs.Listing.{hexadecimal_digit, last_digits}

last_digits_step : (count number : ℕ) → 0 < count → last_digits count number ≡ last_digits (count - 1) (number / 16) ++ hexadecimal_digit (number % 16) ∷ []
unfolding last_digits
last_digits_step zero number some = absurd (omega arith)
last_digits_step (suc count) number some = let same : suc count - 1 ≡ count = omega arith in rw same refl

-- no digits, and one more than before
pub none_appended : (text : List ℕ) (count number : ℕ) → count ≡ 0 → text ≡ text ++ last_digits count number
unfolding last_digits
none_appended text count number none = rw none (sym (append-nil text))

pub one_appended : (text before after : List ℕ) (count number : ℕ) → 0 < count → before ≡ text ++ last_digits (count - 1) (number / 16)
    → after ≡ before ++ hexadecimal_digit (number % 16) ∷ [] → after ≡ text ++ last_digits count number
one_appended text before after count number some front last =
    last ∙ rw (front, last_digits_step count number some) (append_assoc text _ _)
