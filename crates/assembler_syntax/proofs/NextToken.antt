-- A line's first token, and the tokens of what follows it.
use Rattle.std.proofs.Common.{◌≡◌, ℕ, zero, suc, ◌-◌, ◌<◌, ◌≤◌, ◌==◌, ◌||◌, Bool, true, false, List, [], ◌∷◌, length, drop, refl, ap, rules, ◌∙◌, arith, length-drop}
use Rattle.std.proofs.lemmas.Bool.{eqb-true}
use Rattle.line_text.specs.Lines.{is_digit, skip_blanks, ends, begins_name}
use Rattle.assembler_syntax.specs.declared.tokens.AssemblyToken.{AssemblyToken}
use Rattle.assembler_syntax.specs.Tokens.{begins_word, continues_word, span, front_token, tokens_from, tokens_of}

-- ---- what follows a token is shorter

or_true : (a b : Bool) → a ≡ true → (a || b) ≡ true
or_true true b is = refl
or_true false b is = absurd cc

word_byte : (name digit dot : Bool) → (name || dot) ≡ true → ((name || digit) || dot) ≡ true
word_byte true digit dot is = refl
word_byte false true dot is = refl
word_byte false false dot is = is

begins_continues : (byte : ℕ) → begins_word byte ≡ true → continues_word byte ≡ true
begins_continues byte is = word_byte (begins_name byte) (is_digit byte) (byte == 46) is

digit_continues : (byte : ℕ) → is_digit byte ≡ true → continues_word byte ≡ true
digit_continues byte is = elim (begins_name byte) as (λ b. ((b || is_digit byte) || byte == 46) ≡ true) [
  | true ↦ refl
  | false ↦ or_true (is_digit byte) (byte == 46) is
]

after_word : (byte : ℕ) (rest : List ℕ) → continues_word byte ≡ true → length (drop (span (byte ∷ rest)) (byte ∷ rest)) ≤ length rest
after_word byte rest is =
    let some : 1 ≤ span (byte ∷ rest) = rw is (omega arith) in
    rw length-drop (omega (arith, some))

front_by : (byte : ℕ) (rest : List ℕ) (word digit minus : Bool) → begins_word byte ≡ word → is_digit byte ≡ digit → (byte == 45) ≡ minus
    → length (front_token (byte ∷ rest)).1 ≤ length rest
unfolding front_token
front_by byte rest true digit minus w d m = rw w (after_word byte rest (begins_continues byte w))
front_by byte rest false true minus w d m = rw (w, d) (rw d at (after_word byte rest (digit_continues byte d)))
front_by byte rest false false true w d m = rw (w, d, m, length-drop) (omega arith)
front_by byte rest false false false w d m = rw (w, d, m) (omega arith)

front_shorter : (text : List ℕ) → ends text ≡ false → length (front_token text).1 < length text
front_shorter [] goes = absurd cc
front_shorter (byte ∷ rest) goes =
    let most = front_by byte rest (begins_word byte) (is_digit byte) (byte == 45) refl refl refl in
    omega (arith, most)

after_shorter : (bytes : List ℕ) → ends (skip_blanks bytes) ≡ false → length (front_token (skip_blanks bytes)).1 < length bytes
after_shorter bytes goes =
    let less = front_shorter (skip_blanks bytes) goes in
    let within : length (skip_blanks bytes) ≤ length bytes = rw length-drop (omega arith) in
    omega (arith, less, within)

-- ---- tokens don't depend on how many are asked for, where they are enough

same_by : (n m : ℕ) (bytes : List ℕ) (over : Bool) → ends (skip_blanks bytes) ≡ over
    → (over ≡ false → tokens_from n (front_token (skip_blanks bytes)).1 ≡ tokens_from m (front_token (skip_blanks bytes)).1)
    → tokens_from (suc n) bytes ≡ tokens_from (suc m) bytes
unfolding tokens_from
same_by n m bytes true e later = rw e refl
same_by n m bytes false e later = rw e (ap (λ (tokens : List AssemblyToken). (front_token (skip_blanks bytes)).0 ∷ tokens) (later refl))

same : (n m : ℕ) (bytes : List ℕ) → length bytes < n → length bytes < m → tokens_from n bytes ≡ tokens_from m bytes
same zero m bytes some other = absurd (omega (arith, some))
same (suc n) zero bytes some other = absurd (omega (arith, other))
same (suc n) (suc m) bytes some other = same_by n m bytes (ends (skip_blanks bytes)) refl (λ goes.
    let less = after_shorter bytes goes in
    same n m (front_token (skip_blanks bytes)).1 (omega (arith, some, less)) (omega (arith, other, less)))

-- ---- no token, or one and the tokens of what follows

pub none_left : (bytes : List ℕ) → ends (skip_blanks bytes) ≡ true → tokens_of bytes ≡ []
unfolding tokens_of tokens_from
none_left bytes over = rw over refl

one_and : (bytes : List ℕ) → ends (skip_blanks bytes) ≡ false
    → tokens_of bytes ≡ (front_token (skip_blanks bytes)).0 ∷ tokens_from (length bytes) (front_token (skip_blanks bytes)).1
unfolding tokens_of tokens_from
one_and bytes goes = rw goes refl

whole : (bytes : List ℕ) (n : ℕ) → length bytes < n → tokens_from n bytes ≡ tokens_of bytes
unfolding tokens_of
whole bytes n some = same n (suc (length bytes)) bytes some (omega arith)

pub one_left : (bytes text after : List ℕ) (token : AssemblyToken) → text ≡ skip_blanks bytes → ends text ≡ false → (token, after) ≡ front_token text
    → tokens_of bytes ≡ token ∷ tokens_of after
one_left bytes text after token skipped goes front =
    let goes_on : ends (skip_blanks bytes) ≡ false = rw skipped at goes in
    let token_is : token ≡ (front_token (skip_blanks bytes)).0 = rw (← skipped) (ap (λ (x : AssemblyToken × List ℕ). x.0) front) in
    let after_is : after ≡ (front_token (skip_blanks bytes)).1 = rw (← skipped) (ap (λ (x : AssemblyToken × List ℕ). x.1) front) in
    rw (token_is, after_is) (one_and bytes goes_on
    ∙ ap (λ (tokens : List AssemblyToken). (front_token (skip_blanks bytes)).0 ∷ tokens)
    (whole (front_token (skip_blanks bytes)).1 (length bytes) (after_shorter bytes goes_on)))

pub some_left : (bytes : List ℕ) → ends bytes ≡ false → 0 < length bytes
some_left [] goes = absurd (search rules)
some_left (byte ∷ bytes) goes = omega arith

some_over : (n : ℕ) (over : Bool) → (suc n == 0) ≡ over → false ≡ over
some_over n true e = absurd (omega (arith, eqb-true (suc n) 0 e))
some_over n false e = refl

over_by : (bytes : List ℕ) (over : Bool) → ends (skip_blanks bytes) ≡ over → over ≡ (length (tokens_of bytes) == 0)
over_by bytes true e = rw (none_left bytes e) refl
over_by bytes false e =
    rw (one_and bytes e) (some_over (length (tokens_from (length bytes) (front_token (skip_blanks bytes)).1)) _ refl)

pub is_over : (bytes : List ℕ) → ends (skip_blanks bytes) ≡ (length (tokens_of bytes) == 0)
is_over bytes = over_by bytes (ends (skip_blanks bytes)) refl
