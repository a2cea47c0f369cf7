-- Numbers and registers as a listing has them are tokens.
use Rattle.std.proofs.Common.{◌≡◌, ℕ, zero, suc, ◌+◌, ◌*◌, ◌/◌, ◌%◌, ◌^◌, ◌<◌, ◌≤◌, ◌&&◌, Bool, true, ℤ, pos, negsuc, ◌-ℤ◌, ◌≤ℤ◌, unsigned_abs, List, [], ◌∷◌}
use Rattle.std.proofs.Common.{◌++◌, length, refl, ap, ◌∙◌, arith, length-append, pow-suc}
use Rattle.std.specs.List.{list_all}
use Rattle.std.specs.Fmt.{decimal, signed_decimal}
use Rattle.std.proofs.lemmas.Fmt.{decimal_nonempty}
use Rattle.std.proofs.lemmas.List.Folds.{list_all-append}
use Rattle.std.proofs.lemmas.List.Sums.{fold-append}
use Rattle.std.proofs.lemmas.Bool.Decides.{nat_tests}
use Rattle.std.proofs.lemmas.Int.{ints}
use Rattle.line_text.specs.Lines.{is_digit, is_hexadecimal, decimal_number, hexadecimal_number, hexadecimal_value}
use Rattle.line_text.proofs.Numerals.{decimal_digits, decimal_value}
use Rattle.assembler_syntax.specs.declared.tokens.AssemblyToken.{AssemblyToken}
use Rattle.assembler_syntax.specs.declared.tokens.AssemblyToken.TheVariants as t
use Rattle.assembler_syntax.specs.Tokens.{begins_word, continues_word, span, capped, prefixed, number_token, negative_token}
use Rattle.disassembler.specs.Listing.{hexadecimal_digit, last_digits, hexadecimal_text}
use Rattle.disassembler.proofs.Tokens.{Reads, is_word, both_true, both, digit_continues, number_reads, negative_reads}

capped_small : (n : ℕ) → n ≤ 2 ^ 32 → capped n ≡ n
unfolding capped
capped_small n small = grind (arith, nat_tests)

pub digits_continue : (digits : List ℕ) → list_all is_digit digits ≡ true → list_all continues_word digits ≡ true
digits_continue [] all = refl
digits_continue (byte ∷ digits) all =
    let parts = both_true (is_digit byte) (list_all is_digit digits) all in
    both (continues_word byte) (list_all continues_word digits) (digit_continues byte parts.0) (digits_continue digits parts.1)

-- ---- decimal

decimal_token : (digits : List ℕ) (n : ℕ) → list_all is_digit digits ≡ true → decimal_number digits ≡ n → n ≤ 2 ^ 32 → number_token digits ≡ t.Number (pos n)
unfolding number_token
decimal_token digits n all value small = rw (all, value, capped_small n small) refl

negative_is : (digits : List ℕ) (n : ℕ) → 0 < length digits → list_all is_digit digits ≡ true → decimal_number digits ≡ n → n ≤ 2 ^ 32
    → negative_token digits ≡ t.Number (pos 0 -ℤ pos n)
unfolding negative_token
negative_is [] n some all value small = absurd (omega (arith, some))
negative_is (byte ∷ digits) n some all value small = rw (all, value, capped_small n small) refl

digits_read : (digits rest : List ℕ) (token : AssemblyToken) (tokens : List AssemblyToken) → 0 < length digits → list_all is_digit digits ≡ true → number_token digits ≡ token
    → span rest ≡ 0 → Reads rest tokens → Reads (digits ++ rest) (token ∷ tokens)
digits_read [] rest token tokens some all means stops reads = absurd (omega (arith, some))
digits_read (byte ∷ digits) rest token tokens some all means stops reads =
    let parts = both_true (is_digit byte) (list_all is_digit digits) all in
    number_reads byte digits rest token tokens parts.0 (digits_continue digits parts.1) stops means reads

below_zero : (n : ℕ) → pos 0 -ℤ pos (suc n) ≡ negsuc n
below_zero n = grind (arith, ints, nat_tests)

pub signed_reads : (number : ℤ) (rest : List ℕ) (tokens : List AssemblyToken) → negsuc 4294967295 ≤ℤ number → number ≤ℤ pos 4294967296 → span rest ≡ 0
    → Reads rest tokens
    → Reads (signed_decimal number ++ rest) (t.Number number ∷ tokens)
signed_reads (pos n) rest tokens least most stops reads =
    let small : n ≤ 2 ^ 32 = omega (arith, ints, most) in
    let fits : n < 2 ^ 64 = omega (arith, small) in
    digits_read (decimal n) rest (t.Number (pos n)) tokens (decimal_nonempty n fits) (decimal_digits n fits)
    (decimal_token (decimal n) n (decimal_digits n fits) (decimal_value n fits) small) stops reads
signed_reads (negsuc n) rest tokens least most stops reads =
    let small : suc n ≤ 2 ^ 32 = omega (arith, ints, least) in
    let fits : suc n < 2 ^ 64 = omega (arith, small) in
    let same = below_zero n in
    negative_reads (decimal (suc n)) rest (t.Number (negsuc n)) tokens (digits_continue (decimal (suc n)) (decimal_digits (suc n) fits)) stops
    (negative_is (decimal (suc n)) (suc n) (decimal_nonempty (suc n) fits) (decimal_digits (suc n) fits) (decimal_value (suc n) fits) small
    ∙ ap (λ (z : ℤ). t.Number z) same) reads

-- ---- hexadecimal

digit_is_hexadecimal : (d : ℕ) → d < 16 → is_hexadecimal (hexadecimal_digit d) ≡ true
digit_is_hexadecimal d small = grind (arith, nat_tests)

digit_in_word : (d : ℕ) → d < 16 → continues_word (hexadecimal_digit d) ≡ true
digit_in_word d small = grind (arith, nat_tests)

digit_value : (d : ℕ) → d < 16 → hexadecimal_value (hexadecimal_digit d) ≡ d
digit_value d small = grind (arith, nat_tests)

pub all_digits : (class : ℕ → Bool) (each : (d : ℕ) → d < 16 → class (hexadecimal_digit d) ≡ true) (count number : ℕ)
    → list_all class (last_digits count number) ≡ true
unfolding last_digits
all_digits class each zero number = refl
all_digits class each (suc count) number =
    list_all-append class (last_digits count (number / 16)) (hexadecimal_digit (number % 16) ∷ [])
    ∙ both (list_all class (last_digits count (number / 16))) (class (hexadecimal_digit (number % 16)) && true) (all_digits class each count (number / 16))
    (both (class (hexadecimal_digit (number % 16))) true (each (number % 16) (omega arith)) refl)

digits_value : (count number : ℕ) → number < 16 ^ count → hexadecimal_number (last_digits count number) ≡ number
unfolding last_digits
digits_value zero number small = omega (arith, small)
digits_value (suc count) number small =
    let front : number / 16 < 16 ^ count = omega (arith, small, pow-suc 16 count) in
    let last = digit_value (number % 16) (omega arith) in
    fold-append (λ n byte. n * 16 + hexadecimal_value byte) 0 (last_digits count (number / 16)) (hexadecimal_digit (number % 16) ∷ [])
    ∙ rw (digits_value count (number / 16) front, last) (omega arith)

digits_some : (count number : ℕ) → 0 < count → 0 < length (last_digits count number)
unfolding last_digits
digits_some zero number some = absurd (omega (arith, some))
digits_some (suc count) number some = omega (arith, length-append (last_digits count (number / 16)) (hexadecimal_digit (number % 16) ∷ []))

prefixed_token : (digits : List ℕ) (n : ℕ) → 0 < length digits → list_all is_hexadecimal digits ≡ true → hexadecimal_number digits ≡ n → n ≤ 2 ^ 32
    → number_token (48 ∷ 120 ∷ digits) ≡ t.Number (pos n)
unfolding number_token prefixed
prefixed_token [] n some all value small = absurd (omega (arith, some))
prefixed_token (byte ∷ digits) n some all value small = rw (all, value, capped_small n small) refl

pub hexadecimal_reads : (count number : ℕ) (rest : List ℕ) (tokens : List AssemblyToken) → 0 < count → number < 16 ^ count → number ≤ 2 ^ 32 → span rest ≡ 0
    → Reads rest tokens
    → Reads (hexadecimal_text count number ++ rest) (t.Number (pos number) ∷ tokens)
unfolding hexadecimal_text
hexadecimal_reads count number rest tokens some short small stops reads =
    number_reads 48 (120 ∷ last_digits count number) rest (t.Number (pos number)) tokens refl
    (all_digits continues_word digit_in_word count number) stops
    (prefixed_token (last_digits count number) number (digits_some count number some) (all_digits is_hexadecimal digit_is_hexadecimal count number)
    (digits_value count number short) small) reads

-- the same of a number that isn't negative
pub natural_reads : (count : ℕ) (number : ℤ) (rest : List ℕ) (tokens : List AssemblyToken) → 0 < count → pos 0 ≤ℤ number → unsigned_abs number < 16 ^ count
    → unsigned_abs number ≤ 2 ^ 32
    → span rest ≡ 0 → Reads rest tokens → Reads (hexadecimal_text count (unsigned_abs number) ++ rest) (t.Number number ∷ tokens)
natural_reads count (pos n) rest tokens some least short small stops reads = hexadecimal_reads count n rest tokens some short small stops reads
natural_reads count (negsuc n) rest tokens some least short small stops reads = absurd (omega (arith, ints, least))

-- ---- registers

pub register_word : (letter : ℕ) (number : ℤ) → begins_word letter ≡ true → pos 0 ≤ℤ number → number ≤ℤ pos 31 → is_word (letter ∷ signed_decimal number) ≡ true
register_word letter (pos n) begins least most =
    both (begins_word letter) (list_all continues_word (decimal n)) begins (digits_continue (decimal n) (decimal_digits n (omega (arith, ints, most))))
register_word letter (negsuc n) begins least most = absurd (omega (arith, ints, least))
