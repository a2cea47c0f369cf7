-- Digits one after the other, capped at each.
use Rattle.std.proofs.Common.{◌≡◌, ℕ, ◌+◌, ◌-◌, ◌*◌, ◌%◌, ◌^◌, ◌<◌, ◌≤◌, Bool, true, false, nat_le, List, take, length, refl, sym, ap, ◌∙◌, arith}
use Rattle.std.proofs.Math.ListN.{get_or}
use Rattle.std.proofs.lemmas.List.{take_all}
use Rattle.std.proofs.lemmas.List.Sums.{fold_more}
use Rattle.line_text.specs.Lines.{decimal_number, hexadecimal_number, hexadecimal_value}
use Rattle.std.proofs.lemmas.Bool.{leb-false, lt-leb}
use Rattle.assembler_syntax.specs.Tokens.{capped}

decimal_by : (b : Bool) (n d : ℕ) → nat_le n (2 ^ 32) ≡ b → capped (capped n * 10 + d) ≡ capped (n * 10 + d)
unfolding capped
decimal_by true n d e = rw e refl
decimal_by false n d e =
    let over : 2 ^ 32 < n = leb-false n (2 ^ 32) e in
    rw (e, lt-leb ((2 ^ 32 + n % 2) * 10 + d) (2 ^ 32) (omega (arith, over)), lt-leb (n * 10 + d) (2 ^ 32) (omega (arith, over)))
    (ap (λ k. 2 ^ 32 + k) (omega arith))

pub capped_decimal : (n d : ℕ) → capped (capped n * 10 + d) ≡ capped (n * 10 + d)
capped_decimal n d = decimal_by (nat_le n (2 ^ 32)) n d refl

hexadecimal_by : (b : Bool) (n d : ℕ) → nat_le n (2 ^ 32) ≡ b → capped (capped n * 16 + d) ≡ capped (n * 16 + d)
unfolding capped
hexadecimal_by true n d e = rw e refl
hexadecimal_by false n d e =
    let over : 2 ^ 32 < n = leb-false n (2 ^ 32) e in
    rw (e, lt-leb ((2 ^ 32 + n % 2) * 16 + d) (2 ^ 32) (omega (arith, over)), lt-leb (n * 16 + d) (2 ^ 32) (omega (arith, over)))
    (ap (λ k. 2 ^ 32 + k) (omega arith))

pub capped_hexadecimal : (n d : ℕ) → capped (capped n * 16 + d) ≡ capped (n * 16 + d)
capped_hexadecimal n d = hexadecimal_by (nat_le n (2 ^ 32)) n d refl

-- ---- one more digit of a loop

pub next_decimal : (digits : List ℕ) (i number d made : ℕ) → i < length digits → number ≡ capped (decimal_number (take i digits)) → d ≡ get_or digits i 0 - 48
    → made ≡ capped (number * 10 + d) → made ≡ capped (decimal_number (take (i + 1) digits))
next_decimal digits i number d made within is_number is_digit is_made =
    rw (is_made, is_number, is_digit)
    (capped_decimal (decimal_number (take i digits)) (get_or digits i 0 - 48)
    ∙ ap capped (sym (fold_more (λ n byte. n * 10 + (byte - 48)) 0 digits i 0 within)))

pub next_hexadecimal : (digits : List ℕ) (i number d made : ℕ) → i < length digits → number ≡ capped (hexadecimal_number (take i digits))
    → d ≡ hexadecimal_value (get_or digits i 0)
    → made ≡ capped (number * 16 + d) → made ≡ capped (hexadecimal_number (take (i + 1) digits))
next_hexadecimal digits i number d made within is_number is_digit is_made =
    rw (is_made, is_number, is_digit)
    (capped_hexadecimal (hexadecimal_number (take i digits)) (hexadecimal_value (get_or digits i 0))
    ∙ ap capped (sym (fold_more (λ n byte. n * 16 + hexadecimal_value byte) 0 digits i 0 within)))

pub all_taken : (f : List ℕ → ℕ) (digits : List ℕ) (i number : ℕ) → length digits ≤ i → number ≡ capped (f (take i digits)) → number ≡ capped (f digits)
all_taken f digits i number over is_number = is_number ∙ ap (λ ds. capped (f ds)) (take_all i digits over)

pub no_digits : 0 ≡ capped 0
unfolding capped
no_digits = refl
