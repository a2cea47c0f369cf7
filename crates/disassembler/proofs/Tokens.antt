-- The tokens of a text whose front is known.
use Rattle.std.proofs.Common.{◌≡◌, ℕ, zero, suc, ◌+◌, ◌<◌, ◌==◌, ◌||◌, ◌&&◌, Bool, true, false, List, [], ◌∷◌, ◌++◌, length, take, drop, refl, sym, ap, subst}
use Rattle.std.proofs.Common.{◌∙◌, arith, length-append, true≢false}
use Rattle.std.specs.List.{prefix_len, list_all}
use Rattle.std.proofs.lemmas.Bool.{eqb-true}
use Rattle.std.proofs.lemmas.Bool.Decides.{nat_tests}
use Rattle.line_text.specs.Lines.{is_blank, is_digit, skip_blanks, ends, begins_name}
use Rattle.line_text.proofs.SpanLaws.{prefix_len-front}
use Rattle.assembler_syntax.specs.declared.tokens.AssemblyToken.{AssemblyToken}
use Rattle.assembler_syntax.specs.declared.tokens.AssemblyToken.TheVariants as t
use Rattle.assembler_syntax.specs.Tokens.{begins_word, continues_word, span, number_token, negative_token, front_token, tokens_from, tokens_of}

-- the bytes have these tokens, however many more are asked for
abbrev pub Reads : List ℕ → List AssemblyToken → Type 0
Reads bytes tokens = (n : ℕ) → length bytes < n → tokens_from n bytes ≡ tokens

pub whole : (line : List ℕ) (tokens : List AssemblyToken) → Reads line tokens → tokens_of line ≡ tokens
unfolding tokens_of
whole line tokens reads = reads (suc (length line)) (omega arith)

-- ---- the end, a blank, a token

pub nothing_reads : Reads [] []
unfolding tokens_from
nothing_reads zero room = absurd (omega (arith, room))
nothing_reads (suc n) room = refl

front_taken : (n : ℕ) (bytes rest : List ℕ) (token : AssemblyToken) → ends (skip_blanks bytes) ≡ false → front_token (skip_blanks bytes) ≡ (token, rest)
    → tokens_from (suc n) bytes ≡ token ∷ tokens_from n rest
unfolding tokens_from
front_taken n bytes rest token goes front = rw (goes, front) refl

token_reads : (bytes rest : List ℕ) (token : AssemblyToken) (tokens : List AssemblyToken) → ends (skip_blanks bytes) ≡ false → front_token (skip_blanks bytes) ≡ (token, rest)
    → length rest < length bytes → Reads rest tokens → Reads bytes (token ∷ tokens)
token_reads bytes rest token tokens goes front less reads zero room = absurd (omega (arith, room))
token_reads bytes rest token tokens goes front less reads (suc n) room =
    front_taken n bytes rest token goes front ∙ ap (λ others. token ∷ others) (reads n (omega (arith, room, less)))

blank_skipped : (rest : List ℕ) → skip_blanks (32 ∷ rest) ≡ skip_blanks rest
blank_skipped rest =
    let one : 1 + prefix_len is_blank rest ≡ suc (prefix_len is_blank rest) = omega arith in
    rw one refl

same_front : (n : ℕ) (rest : List ℕ) → tokens_from (suc n) (32 ∷ rest) ≡ tokens_from (suc n) rest
unfolding tokens_from
same_front n rest = rw (blank_skipped rest) refl

pub blank_reads : (rest : List ℕ) (tokens : List AssemblyToken) → Reads rest tokens → Reads (32 ∷ rest) tokens
blank_reads rest tokens reads zero room = absurd (omega (arith, room))
blank_reads rest tokens reads (suc n) room = same_front n rest ∙ reads (suc n) (omega (arith, room))

-- ---- marks

pub comma_reads : (rest : List ℕ) (tokens : List AssemblyToken) → Reads rest tokens → Reads (44 ∷ rest) (t.Comma ∷ tokens)
unfolding front_token
comma_reads rest tokens reads = token_reads (44 ∷ rest) rest t.Comma tokens refl refl (omega arith) reads

pub open_reads : (rest : List ℕ) (tokens : List AssemblyToken) → Reads rest tokens → Reads (40 ∷ rest) (t.Open ∷ tokens)
unfolding front_token
open_reads rest tokens reads = token_reads (40 ∷ rest) rest t.Open tokens refl refl (omega arith) reads

pub close_reads : (rest : List ℕ) (tokens : List AssemblyToken) → Reads rest tokens → Reads (41 ∷ rest) (t.Close ∷ tokens)
unfolding front_token
close_reads rest tokens reads = token_reads (41 ∷ rest) rest t.Close tokens refl refl (omega arith) reads

-- ---- words and numbers, where no byte of a word follows

-- a byte of a class is none that isn't of the class
pub is_other : (class : ℕ → Bool) (byte other : ℕ) → class byte ≡ true → class other ≡ false → (byte == other) ≡ false
is_other class byte other is isnt = elim (byte == other) as (λ test. (byte == other) ≡ test → test ≡ false) [
  | true ↦ λ e. absurd (true≢false (sym (subst (λ b. class b ≡ true) (eqb-true byte other e) is) ∙ isnt))
  | false ↦ λ e. refl
] refl

-- a first byte that is neither a blank nor opens a comment
no_blanks : (byte : ℕ) (rest : List ℕ) → continues_word byte ≡ true → skip_blanks (byte ∷ rest) ≡ byte ∷ rest
no_blanks byte rest is = rw (is_other continues_word byte 32 is refl, is_other continues_word byte 9 is refl) refl

no_comment : (byte : ℕ) (rest : List ℕ) → continues_word byte ≡ true → ends (byte ∷ rest) ≡ false
no_comment byte rest is = is_other continues_word byte 35 is refl

-- the front up to the span, and what follows it
front_span : (front rest : List ℕ) → list_all continues_word front ≡ true → span rest ≡ 0 → span (front ++ rest) ≡ length front
front_span front rest all stops = prefix_len-front continues_word front rest all stops

taken_front : (front rest : List ℕ) → take (length front) (front ++ rest) ≡ front
taken_front [] rest = refl
taken_front (byte ∷ front) rest = ap (λ bytes. byte ∷ bytes) (taken_front front rest)

dropped_front : (front rest : List ℕ) → drop (length front) (front ++ rest) ≡ rest
dropped_front [] rest = refl
dropped_front (byte ∷ front) rest = dropped_front front rest

or_true : (a b : Bool) → a ≡ true → (a || b) ≡ true
or_true true b is = refl
or_true false b is = absurd cc

word_byte : (name digit dot : Bool) → (name || dot) ≡ true → ((name || digit) || dot) ≡ true
word_byte true digit dot is = refl
word_byte false true dot is = refl
word_byte false false dot is = is

begins_continues : (byte : ℕ) → begins_word byte ≡ true → continues_word byte ≡ true
begins_continues byte is = word_byte (begins_name byte) (is_digit byte) (byte == 46) is

pub digit_continues : (byte : ℕ) → is_digit byte ≡ true → continues_word byte ≡ true
digit_continues byte is = elim (begins_name byte) as (λ b. ((b || is_digit byte) || byte == 46) ≡ true) [
  | true ↦ refl
  | false ↦ or_true (is_digit byte) (byte == 46) is
]

digit_begins_nothing : (byte : ℕ) → is_digit byte ≡ true → begins_word byte ≡ false
digit_begins_nothing byte is = grind (arith, nat_tests)

-- a word
abbrev pub is_word : List ℕ → Bool
is_word [] = false
is_word (byte ∷ word) = begins_word byte && list_all continues_word word

pub both_true : (a b : Bool) → (a && b) ≡ true → (a ≡ true) × (b ≡ true)
both_true true b is = (refl, is)
both_true false b is = absurd cc

pub both : (a b : Bool) → a ≡ true → b ≡ true → (a && b) ≡ true
both a b is is' = rw (is, is') refl

pub word_continues : (word : List ℕ) → is_word word ≡ true → list_all continues_word word ≡ true
word_continues [] is = refl
word_continues (byte ∷ word) is =
    let parts = both_true (begins_word byte) (list_all continues_word word) is in
    both (continues_word byte) (list_all continues_word word) (begins_continues byte parts.0) parts.1

word_front : (byte : ℕ) (word rest : List ℕ) → begins_word byte ≡ true → list_all continues_word (byte ∷ word) ≡ true → span rest ≡ 0
    → front_token (byte ∷ (word ++ rest)) ≡ (t.Word (byte ∷ word), rest)
unfolding front_token
word_front byte word rest begins all stops =
    rw (begins, front_span (byte ∷ word) rest all stops, taken_front (byte ∷ word) rest, dropped_front (byte ∷ word) rest) refl

number_front : (byte : ℕ) (digits rest : List ℕ) → is_digit byte ≡ true → list_all continues_word (byte ∷ digits) ≡ true → span rest ≡ 0
    → front_token (byte ∷ (digits ++ rest)) ≡ (number_token (byte ∷ digits), rest)
unfolding front_token
number_front byte digits rest is all stops =
    rw (front_span (byte ∷ digits) rest all stops, taken_front (byte ∷ digits) rest, dropped_front (byte ∷ digits) rest, digit_begins_nothing byte is, is) refl

negative_front : (digits rest : List ℕ) → list_all continues_word digits ≡ true → span rest ≡ 0
    → front_token (45 ∷ (digits ++ rest)) ≡ (negative_token digits, rest)
unfolding front_token
negative_front digits rest all stops = rw (front_span digits rest all stops, taken_front digits rest, dropped_front digits rest) refl

shorter : (byte : ℕ) (front rest : List ℕ) → length rest < length (byte ∷ (front ++ rest))
shorter byte front rest = omega (arith, length-append front rest)

-- what begins with a byte of a word is taken from there
front_reads : (byte : ℕ) (front rest : List ℕ) (token : AssemblyToken) (tokens : List AssemblyToken) → continues_word byte ≡ true
    → front_token (byte ∷ (front ++ rest)) ≡ (token, rest) → Reads rest tokens → Reads (byte ∷ (front ++ rest)) (token ∷ tokens)
front_reads byte front rest token tokens is taken reads =
    token_reads (byte ∷ (front ++ rest)) rest token tokens
    (rw (no_blanks byte (front ++ rest) is) (no_comment byte (front ++ rest) is))
    (ap front_token (no_blanks byte (front ++ rest) is) ∙ taken) (shorter byte front rest) reads

pub word_reads : (word rest : List ℕ) (tokens : List AssemblyToken) → is_word word ≡ true → span rest ≡ 0 → Reads rest tokens
    → Reads (word ++ rest) (t.Word word ∷ tokens)
word_reads [] rest tokens is stops reads = absurd cc
word_reads (byte ∷ word) rest tokens is stops reads =
    let parts = both_true (begins_word byte) (list_all continues_word word) is in
    let first = begins_continues byte parts.0 in
    front_reads byte word rest (t.Word (byte ∷ word)) tokens first
    (word_front byte word rest parts.0 (both (continues_word byte) (list_all continues_word word) first parts.1) stops) reads

pub number_reads : (byte : ℕ) (digits rest : List ℕ) (token : AssemblyToken) (tokens : List AssemblyToken) → is_digit byte ≡ true → list_all continues_word digits ≡ true
    → span rest ≡ 0
    → number_token (byte ∷ digits) ≡ token → Reads rest tokens → Reads (byte ∷ (digits ++ rest)) (token ∷ tokens)
number_reads byte digits rest token tokens is all stops means reads =
    let first = digit_continues byte is in
    front_reads byte digits rest token tokens first
    (number_front byte digits rest is (both (continues_word byte) (list_all continues_word digits) first all) stops ∙ ap (λ token. (token, rest)) means) reads

pub negative_reads : (digits rest : List ℕ) (token : AssemblyToken) (tokens : List AssemblyToken) → list_all continues_word digits ≡ true → span rest ≡ 0
    → negative_token digits ≡ token → Reads rest tokens → Reads (45 ∷ (digits ++ rest)) (token ∷ tokens)
negative_reads digits rest token tokens all stops means reads =
    token_reads (45 ∷ (digits ++ rest)) rest token tokens refl
    (negative_front digits rest all stops ∙ ap (λ token. (token, rest)) means) (shorter 45 digits rest) reads
