-- Digits that spell a number, as std's lemmas on decimal digits see them.
use Rattle.std.proofs.Common.{◌≡◌, ℕ, ◌+◌, ◌-◌, ◌*◌, ◌^◌, ◌<◌, true, List, fold, rules}
use Rattle.std.specs.Fmt.{decimal}
use Rattle.std.specs.List.{list_all}
use Rattle.std.proofs.lemmas.Fmt.{digits_decimal, digits_value-decimal}
use Rattle.std.proofs.lemmas.Str.Parse.{IsNumeralModel, numerals_by_fold}
use Rattle.line_text.specs.Lines.{is_digit, decimal_number}

abbrev from : ℕ → List ℕ → ℕ
from number digits = fold (λ n byte. n * 10 + (byte - 48)) number digits

own : IsNumeralModel (λ digits. list_all is_digit digits ≡ true) (from 0)
own = numerals_by_fold _ (search rules) from (search rules)

pub decimal_digits : (number : ℕ) → number < 2 ^ 64 → list_all is_digit (decimal number) ≡ true
decimal_digits number small = digits_decimal own number small

pub decimal_value : (number : ℕ) → number < 2 ^ 64 → decimal_number (decimal number) ≡ number
decimal_value number small = digits_value-decimal own number small
