-- Numbers of which all digits but the last were cut off at the greatest.
use Rattle.std.proofs.Common.{◌≡◌, ℕ, ◌+◌, ◌-◌, ◌*◌, ◌^◌, ◌<◌, ◌≤◌, Bool, true, false, List, [], ◌∷◌, ◌++◌, length, length-append, refl, sym, ap, ◌∙◌, arith}
use Rattle.std.specs.Prelude.{◌&&◌, cond, min, nat_lt, None}
use Rattle.std.specs.List.{list_all, prefix_len}
use Rattle.std.proofs.lemmas.Bool.{le-ltb}
use Rattle.std.proofs.lemmas.Bool.Decides.{nat_tests}
use Rattle.std.proofs.lemmas.List.Sums.{fold-append}
use Rattle.line_text.specs.Lines.{is_digit, is_hexadecimal, decimal_number, hexadecimal_number, hexadecimal_value}
use Rattle.hrv_engines.specs.Commands.{below_most, spelled_by}

-- ---- the digits are all of a class where they are as many as the front of the class

front_and_more : (test : Bool) (class : ℕ → Bool) (bytes : List ℕ) → (test && list_all class bytes) ≡ false → (list_all class bytes ≡ false
    → prefix_len class bytes < length bytes)
    → cond test (1 + prefix_len class bytes) 0 < length bytes + 1
front_and_more true class bytes e more = let below = more e in omega (arith, below)
front_and_more false class bytes e more = omega arith

pub not_all : (class : ℕ → Bool) (bytes : List ℕ) → list_all class bytes ≡ false → prefix_len class bytes < length bytes
not_all class [] e = grind arith
not_all class (byte ∷ bytes) e = let h = front_and_more (class byte) class bytes e (not_all class bytes) in omega (arith, h)

all_and_more : (test : Bool) (class : ℕ → Bool) (bytes : List ℕ) → (test && list_all class bytes) ≡ true → (list_all class bytes ≡ true
    → prefix_len class bytes ≡ length bytes)
    → cond test (1 + prefix_len class bytes) 0 ≡ length bytes + 1
all_and_more true class bytes e more = let same = more e in omega (arith, same)
all_and_more false class bytes e more = grind arith

pub all_of : (class : ℕ → Bool) (bytes : List ℕ) → list_all class bytes ≡ true → prefix_len class bytes ≡ length bytes
all_of class [] e = refl
all_of class (byte ∷ bytes) e = let h = all_and_more (class byte) class bytes e (all_of class bytes) in omega (arith, h)

by_test : (b : Bool) (class : ℕ → Bool) (value : List ℕ → ℕ) (bytes : List ℕ) → list_all class bytes ≡ b → prefix_len class bytes < length bytes
    → spelled_by class value bytes ≡ None
by_test true class value bytes e below = absurd (let same = all_of class bytes e in omega (arith, same))
by_test false class value [] e below = refl
by_test false class value (byte ∷ bytes) e below = rw e refl

-- a byte of another class is among them
pub no_number : (class : ℕ → Bool) (value : List ℕ → ℕ) (bytes : List ℕ) → prefix_len class bytes < length bytes → None ≡ spelled_by class value bytes
no_number class value bytes below = sym (by_test (list_all class bytes) class value bytes refl below)

some_number : (b : Bool) (class : ℕ → Bool) (value : List ℕ → ℕ) (byte : ℕ) (bytes : List ℕ) → list_all class (byte ∷ bytes) ≡ b
    → length (byte ∷ bytes) ≤ prefix_len class (byte ∷ bytes)
    → spelled_by class value (byte ∷ bytes) ≡ below_most (value (byte ∷ bytes))
some_number true class value byte bytes e whole = rw e refl
some_number false class value byte bytes e whole = absurd (let h = not_all class (byte ∷ bytes) e in omega (arith, h))

-- ---- all digits but the last

none_above : (n : ℕ) → 2 ^ 64 ≤ n → below_most n ≡ None
none_above n h = rw (le-ltb n (2 ^ 64) h) refl

pub capped_decimal : (front digit : ℕ) → below_most (min front (2 ^ 64 - 1) * 10 + digit) ≡ below_most (front * 10 + digit)
capped_decimal front digit = go (nat_lt front (2 ^ 64)) refl
  where
    go : (b : Bool) → nat_lt front (2 ^ 64) ≡ b → below_most (min front (2 ^ 64 - 1) * 10 + digit) ≡ below_most (front * 10 + digit)
    go true e =
        let below : front < 2 ^ 64 = grind (arith, nat_tests) in
        let same : min front (2 ^ 64 - 1) ≡ front = omega (arith, below) in
        ap (λ n. below_most (n * 10 + digit)) same
    go false e =
        let big : 2 ^ 64 ≤ front = grind (arith, nat_tests) in
        let top : min front (2 ^ 64 - 1) ≡ 2 ^ 64 - 1 = omega (arith, big) in
        none_above (min front (2 ^ 64 - 1) * 10 + digit) (omega (arith, top)) ∙ sym (none_above (front * 10 + digit) (omega (arith, big)))

pub capped_hexadecimal : (front digit : ℕ) → below_most (min front (2 ^ 64 - 1) * 16 + digit) ≡ below_most (front * 16 + digit)
capped_hexadecimal front digit = go (nat_lt front (2 ^ 64)) refl
  where
    go : (b : Bool) → nat_lt front (2 ^ 64) ≡ b → below_most (min front (2 ^ 64 - 1) * 16 + digit) ≡ below_most (front * 16 + digit)
    go true e =
        let below : front < 2 ^ 64 = grind (arith, nat_tests) in
        let same : min front (2 ^ 64 - 1) ≡ front = omega (arith, below) in
        ap (λ n. below_most (n * 16 + digit)) same
    go false e =
        let big : 2 ^ 64 ≤ front = grind (arith, nat_tests) in
        let top : min front (2 ^ 64 - 1) ≡ 2 ^ 64 - 1 = omega (arith, big) in
        none_above (min front (2 ^ 64 - 1) * 16 + digit) (omega (arith, top)) ∙ sym (none_above (front * 16 + digit) (omega (arith, big)))

whole : (class : ℕ → Bool) (value : List ℕ → ℕ) (digits front : List ℕ) (last : ℕ) → digits ≡ front ++ last ∷ [] → length digits ≤ prefix_len class digits
    → spelled_by class value digits ≡ below_most (value (front ++ last ∷ []))
whole class value [] front last is all = absurd (let e = ap length is in let l = length-append front (last ∷ []) in omega (arith, e, l))
whole class value (byte ∷ bytes) front last is all =
    some_number (list_all class (byte ∷ bytes)) class value byte bytes refl all ∙ ap (λ ds. below_most (value ds)) is

-- what the last digit adds
pub decimal_last : (digits front : List ℕ) (last : ℕ) → digits ≡ front ++ last ∷ [] → length digits ≤ prefix_len is_digit digits
    → below_most (min (decimal_number front) (2 ^ 64 - 1) * 10 + (last - 48)) ≡ spelled_by is_digit decimal_number digits
decimal_last digits front last is all =
    capped_decimal (decimal_number front) (last - 48)
    ∙ sym (whole is_digit decimal_number digits front last is all ∙ ap below_most (fold-append (λ number byte. number * 10 + (byte - 48)) 0 front (last ∷ [])))

pub hexadecimal_last : (digits front : List ℕ) (last : ℕ) → digits ≡ front ++ last ∷ [] → length digits ≤ prefix_len is_hexadecimal digits
    → below_most (min (hexadecimal_number front) (2 ^ 64 - 1) * 16 + hexadecimal_value last) ≡ spelled_by is_hexadecimal hexadecimal_number digits
hexadecimal_last digits front last is all =
    capped_hexadecimal (hexadecimal_number front) (hexadecimal_value last)
    ∙ sym (whole is_hexadecimal hexadecimal_number digits front last is all
    ∙ ap below_most (fold-append (λ number byte. number * 16 + hexadecimal_value byte) 0 front (last ∷ [])))
