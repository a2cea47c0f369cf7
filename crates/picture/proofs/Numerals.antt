-- Numbers, spelled and read again.
use Rattle.std.proofs.Common.{◌≡◌, ◌≢◌, ℕ, zero, suc, ◌+◌, ◌-◌, ◌*◌, ◌^◌, ◌<◌, Bool, true, false, cond, ◌&&◌, List, [], ◌∷◌, ◌++◌, length, take, drop, get_or}
use Rattle.std.proofs.Common.{fold, Result, Ok, Err, refl, sym, ap, subst, ◌∙◌, rules, arith}
use Rattle.std.specs.Prelude.{◌==◌}
use Rattle.std.specs.List.{list_all, prefix_len}
use Rattle.std.specs.Fmt.{decimal}
use Rattle.std.proofs.lemmas.Bool.Decides.{nat_tests}
use Rattle.std.proofs.Math.Seq.{take-append_seam, drop-append_seam}
use Rattle.std.proofs.lemmas.List.{take-append-drop}
use Rattle.std.proofs.lemmas.Fmt.{decimal_nonempty, first_decimal, decimal_digit, decimal-digits_value}
use Rattle.std.proofs.lemmas.Str.Parse.{IsNumeralModel, numerals_by_fold}
use Rattle.line_text.specs.Lines.{is_digit, decimal_number, ◌>>=◌}
use Rattle.line_text.proofs.Numerals.{decimal_digits}
use Rattle.line_text.proofs.SpanLaws.{prefix_len-front}
use Rattle.picture.specs.declared.faults.PictureFault.TheVariants as PictureFault
use Rattle.picture.specs.Reading.{Numeral, is_plain, plain_at, numeral_at}

-- ---- the digits of a number

plain_digits : (negative : Bool) (digits : List ℕ) → 0 < length digits → (get_or digits 0 0 ≡ 48 → length digits ≡ 1)
    → (negative ≡ true → get_or digits 0 0 ≢ 48) → is_plain negative digits ≡ true
plain_digits negative [] some one signed = absurd (omega arith)
plain_digits true (first ∷ []) some one signed = grind (arith, nat_tests, signed refl)
plain_digits false (first ∷ []) some one signed = refl
plain_digits negative (first ∷ second ∷ digits) some one signed = grind (arith, nat_tests, one)

-- what a number is written as has no leading zero, and is `0` for 0 alone
pub is_plain-decimal : (negative : Bool) (n : ℕ) → n < 2 ^ 64 → (negative ≡ true → 0 < n) → is_plain negative (decimal n) ≡ true
is_plain-decimal negative zero small signed =
    plain_digits negative (decimal 0) (decimal_nonempty 0 small) (λ e. ap length (decimal_digit 0 (omega arith))) (λ e. absurd (omega (arith, signed e)))
is_plain-decimal negative (suc n) small signed =
    let first = first_decimal (suc n) (omega arith) small in
    plain_digits negative (decimal (suc n)) (decimal_nonempty (suc n) small) (λ e. absurd (omega (arith, e, first))) (λ s e. absurd (omega (arith, e, first)))

-- ---- spelled, and read again

pub plain_at-decimal : (negative : Bool) (n : ℕ) (rest : List ℕ) → n < 2 ^ 64 → (negative ≡ true → 0 < n) → prefix_len is_digit rest ≡ 0
    → plain_at negative (decimal n ++ rest) ≡ Ok (record { negative = negative; digits = decimal n }, rest)
unfolding plain_at
plain_at-decimal negative n rest small signed stops =
    let len : prefix_len is_digit (decimal n ++ rest) ≡ length (decimal n) = prefix_len-front is_digit (decimal n) rest (decimal_digits n small) stops in
    rw (len, take-append_seam (decimal n) rest, drop-append_seam (decimal n) rest, is_plain-decimal negative n small signed) refl

-- a text that begins with a digit begins with no sign
no_sign : (digits rest : List ℕ) → 0 < length digits → list_all is_digit digits ≡ true → numeral_at (digits ++ rest) ≡ plain_at false (digits ++ rest)
unfolding numeral_at
no_sign [] rest some all = absurd (omega arith)
no_sign (first ∷ digits) rest some all =
    let e : (first == 45) ≡ false = unsigned first (is_digit first) (list_all is_digit digits) all refl in
    rw e refl
  where
    unsigned : (byte : ℕ) (passes others : Bool) → (passes && others) ≡ true → passes ≡ is_digit byte → (byte == 45) ≡ false
    unsigned byte true others e is = grind (arith, nat_tests)
    unsigned byte false others e is = absurd cc

pub numeral_at-decimal : (n : ℕ) (rest : List ℕ) → n < 2 ^ 64 → prefix_len is_digit rest ≡ 0
    → numeral_at (decimal n ++ rest) ≡ Ok (record { negative = false; digits = decimal n }, rest)
numeral_at-decimal n rest small stops =
    no_sign (decimal n) rest (decimal_nonempty n small) (decimal_digits n small) ∙ plain_at-decimal false n rest small (λ e. absurd cc) stops

pub numeral_at-signed : (n : ℕ) (rest : List ℕ) → 0 < n → n < 2 ^ 64 → prefix_len is_digit rest ≡ 0 → numeral_at (45 ∷ (decimal n ++ rest))
    ≡ Ok (record { negative = true; digits = decimal n }, rest)
unfolding numeral_at
numeral_at-signed n rest some small stops = plain_at-decimal true n rest small (λ e. some) stops

-- ---- read, and spelled again

-- a test that was passed
pub cond-Ok : {A F : Type 0} (test : Bool) (value got : A) (fault : F) → cond test (Ok value) (Err fault) ≡ Ok got → (test ≡ true) × (value ≡ got)
cond-Ok true value got fault e = (refl, cc)
cond-Ok false value got fault e = absurd cc

-- a step that was made
pub then-Ok : {A B F : Type 0} (first : Result A F) (next : A → Result B F) (got : B) → (first >>= next) ≡ Ok got
    → (value : A) × ((first ≡ Ok value) × (next value ≡ Ok got))
then-Ok (Ok value) next got e = (value, (refl, e))
then-Ok (Err fault) next got e = absurd cc

-- a sign, if there is one
abbrev pub sign : Bool → List ℕ
sign true = 45 ∷ []
sign false = []

-- a text, and the number that was read at its front with what is after
pub record HasNumeral (text : List ℕ) (read : Numeral × List ℕ) : Type 0 where
  pub text_is : text ≡ sign read.0.negative ++ (read.0.digits ++ read.1)
  pub digits : list_all is_digit read.0.digits ≡ true
  pub plain : is_plain read.0.negative read.0.digits ≡ true

pub record HasPlain (negative : Bool) (text : List ℕ) (read : Numeral × List ℕ) : Type 0 where
  pub text_is : text ≡ read.0.digits ++ read.1
  pub sign_is : read.0.negative ≡ negative
  pub digits : list_all is_digit read.0.digits ≡ true
  pub plain : is_plain read.0.negative read.0.digits ≡ true

list_all-prefix : (class : ℕ → Bool) (xs : List ℕ) → list_all class (take (prefix_len class xs) xs) ≡ true
list_all-prefix class [] = refl
list_all-prefix class (x ∷ xs) = at_first class x xs (class x) refl (list_all-prefix class xs)
  where
    at_first : (class : ℕ → Bool) (x : ℕ) (xs : List ℕ) (passes : Bool) → class x ≡ passes → list_all class (take (prefix_len class xs) xs) ≡ true
        → list_all class (take (cond passes (1 + prefix_len class xs) 0) (x ∷ xs)) ≡ true
    at_first class x xs true e others = let n : 1 + prefix_len class xs ≡ suc (prefix_len class xs) = omega arith in rw (n, e) others
    at_first class x xs false e others = refl

plain_at-Ok : (negative : Bool) (text : List ℕ) (read : Numeral × List ℕ) → plain_at negative text ≡ Ok read → HasPlain negative text read
unfolding plain_at
plain_at-Ok negative text read e =
    let digits = take (prefix_len is_digit text) text in
    let rest = drop (prefix_len is_digit text) text in
    let passed = cond-Ok (is_plain negative digits) (record { negative = negative; digits = digits }, rest) read PictureFault.Syntax e in
    subst (λ (found : Numeral × List ℕ). HasPlain negative text found) passed.1 (record {
      text_is = sym (take-append-drop (prefix_len is_digit text) text);
      sign_is = refl;
      digits = list_all-prefix is_digit text;
      plain = passed.0;
    })

signed_from_plain : (negative : Bool) (text : List ℕ) (read : Numeral × List ℕ) → HasPlain negative text read → HasNumeral (sign negative ++ text) read
signed_from_plain negative text read plain = record {
  text_is = rw (plain.sign_is) (ap (λ (behind : List ℕ). sign negative ++ behind) plain.text_is);
  digits = plain.digits;
  plain = plain.plain;
}

pub numeral_at-Ok : (text : List ℕ) (read : Numeral × List ℕ) → numeral_at text ≡ Ok read → HasNumeral text read
unfolding numeral_at
numeral_at-Ok [] read e = absurd cc
numeral_at-Ok (byte ∷ text) read e = by_sign byte text read (byte == 45) refl e
  where
    by_sign : (byte : ℕ) (text : List ℕ) (read : Numeral × List ℕ) (signed : Bool) → (byte == 45) ≡ signed
        → cond signed (plain_at true text) (plain_at false (byte ∷ text)) ≡ Ok read → HasNumeral (byte ∷ text) read
    by_sign byte text read true is e =
        let minus : 45 ≡ byte = grind (arith, nat_tests) in
        subst (λ (first : ℕ). HasNumeral (first ∷ text) read) minus (signed_from_plain true text read (plain_at-Ok true text read e))
    by_sign byte text read false is e = signed_from_plain false (byte ∷ text) read (plain_at-Ok false (byte ∷ text) read e)

-- ---- the digits that were read are those of their number

abbrev from : ℕ → List ℕ → ℕ
from number digits = fold (λ n byte. n * 10 + (byte - 48)) number digits

own : IsNumeralModel (λ digits. list_all is_digit digits ≡ true) (from 0)
own = numerals_by_fold _ (search rules) from (search rules)

some_digit : (negative : Bool) (digits : List ℕ) → is_plain negative digits ≡ true → 0 < length digits
some_digit negative [] plain = absurd cc
some_digit negative (first ∷ digits) plain = omega arith

no_leading_zero : (negative : Bool) (digits : List ℕ) → is_plain negative digits ≡ true → get_or digits 0 0 ≡ 48 → length digits ≡ 1
no_leading_zero negative [] plain e = absurd cc
no_leading_zero negative (first ∷ []) plain e = refl
no_leading_zero negative (first ∷ second ∷ digits) plain e = absurd (grind (arith, nat_tests))

pub decimal-decimal_number : (negative : Bool) (digits : List ℕ) → list_all is_digit digits ≡ true → is_plain negative digits ≡ true
    → decimal_number digits < 2 ^ 64 → decimal (decimal_number digits) ≡ digits
decimal-decimal_number negative digits all plain small =
    decimal-digits_value own digits all (some_digit negative digits plain) (no_leading_zero negative digits plain) small

-- no `-0` is read
pub some_below_zero : (digits : List ℕ) → list_all is_digit digits ≡ true → is_plain true digits ≡ true → decimal_number digits < 2 ^ 64
    → 0 < decimal_number digits
some_below_zero digits all plain small = by_number (decimal_number digits) refl
  where
    by_number : (n : ℕ) → decimal_number digits ≡ n → 0 < n
    by_number zero e =
        let zero_is : 48 ∷ [] ≡ digits = sym (decimal_digit 0 (omega arith)) ∙ ap decimal (sym e) ∙ decimal-decimal_number true digits all plain small in
        let wrong : false ≡ true = ap (λ (ds : List ℕ). is_plain true ds) zero_is ∙ plain in
        absurd cc
    by_number (suc n) e = omega arith
