-- Numbers of options.
use Rattle.std.proofs.Common.{◌≡◌, ◌≤◌, ◌<◌, ◌^◌, ℕ, Bool, true, false, refl, ap, subst, arith, Some, None}
use Rattle.std.specs.Str.Parse.{IsNumeral, digits_value, without_leading_plus}
use Rattle.clap.proofs.ValueTestLemmas.{Accepts-accepts, accepts-Accepts}
use Rattle.clap.specs.ValueTests.{accepts}
use Rattle.clap.specs.Words.{Text}
use Rattle.clap.specs.declared.builder.value_parser.ValueParser.TheVariants.{Unsigned}
use Rattle.hrv_command_line.specs.CommandLine.{hart_in, number_or, number_in}
use Rattle.hrv_command_line.specs.Commands.{most_hart, most_number}

abbrev IsRead : Text → Type 0
IsRead text = IsNumeral 10 (without_leading_plus text) × (digits_value 10 (without_leading_plus text) < 2 ^ 64)

-- a number within the limits is taken
pub taken : (none most number : ℕ) (text : Text) → IsRead text → number ≡ digits_value 10 (without_leading_plus text) → 1 ≤ number → number ≤ most
    → Some number ≡ number_or none most (Some text)
taken none most number text read is some few =
    let low = subst (λ n. 1 ≤ n) is some in
    let high = subst (λ n. n ≤ most) is few in
    let accepted : accepts false (Unsigned 1 most) text ≡ true = Accepts-accepts false (Unsigned 1 most) text (read.0, read.1, low, high) in
    rw (accepted) (ap (λ n. Some n) is)

-- what is no number isn't
pub untaken : (none most : ℕ) (text : Text) → (IsRead text → ⊥) → None ≡ number_or none most (Some text)
untaken none most text refused = go (accepts false (Unsigned 1 most) text) refl
  where
    go : (b : Bool) → accepts false (Unsigned 1 most) text ≡ b → None ≡ number_or none most (Some text)
    go false is = rw (is) refl
    go true is = let fits = accepts-Accepts false (Unsigned 1 most) text is in absurd (refused (fits.0, fits.1))

-- a number that is one is taken
pub number_taken : (number : ℕ) (text : Text) → IsRead text → number ≡ digits_value 10 (without_leading_plus text)
    → Some number ≡ number_in text
number_taken number text read is =
    let fits = read.1 in
    let accepted : accepts false (Unsigned 0 most_number) text ≡ true =
    Accepts-accepts false (Unsigned 0 most_number) text (read.0, read.1, omega arith, omega (arith, fits)) in
    rw (accepted) (ap (λ n. Some n) is)

-- what is no number isn't
pub number_untaken : (text : Text) → (IsRead text → ⊥) → None ≡ number_in text
number_untaken text refused = go (accepts false (Unsigned 0 most_number) text) refl
  where
    go : (b : Bool) → accepts false (Unsigned 0 most_number) text ≡ b → None ≡ number_in text
    go false is = rw (is) refl
    go true is = let fits = accepts-Accepts false (Unsigned 0 most_number) text is in absurd (refused (fits.0, fits.1))

-- a hart that is one of eight is taken
pub hart_taken : (hart : ℕ) (text : Text) → IsRead text → hart ≡ digits_value 10 (without_leading_plus text) → hart < 8 → Some hart ≡ hart_in text
hart_taken hart text read is few =
    let high : digits_value 10 (without_leading_plus text) ≤ 7 = omega (arith, is, few) in
    let accepted : accepts false (Unsigned 0 most_hart) text ≡ true =
    Accepts-accepts false (Unsigned 0 most_hart) text (read.0, read.1, omega arith, high) in
    rw (accepted) (ap (λ n. Some n) is)

-- no other number is
pub hart_beyond : (hart : ℕ) (text : Text) → hart ≡ digits_value 10 (without_leading_plus text) → (hart < 8 → ⊥) → None ≡ hart_in text
hart_beyond hart text is many = go (accepts false (Unsigned 0 most_hart) text) refl
  where
    go : (b : Bool) → accepts false (Unsigned 0 most_hart) text ≡ b → None ≡ hart_in text
    go false is_refused = rw (is_refused) refl
    go true accepted =
        let fits = accepts-Accepts false (Unsigned 0 most_hart) text accepted in
        let most = fits.3 in
        absurd (many (omega (arith, is, most)))

-- nor is what is no number
pub hart_untaken : (text : Text) → (IsRead text → ⊥) → None ≡ hart_in text
hart_untaken text refused = go (accepts false (Unsigned 0 most_hart) text) refl
  where
    go : (b : Bool) → accepts false (Unsigned 0 most_hart) text ≡ b → None ≡ hart_in text
    go false is = rw (is) refl
    go true is = let fits = accepts-Accepts false (Unsigned 0 most_hart) text is in absurd (refused (fits.0, fits.1))
