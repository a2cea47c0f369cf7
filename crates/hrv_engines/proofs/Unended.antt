-- What may be left out of a line of a talk that has not ended: zeros in front of a number that has two, and all after what begins no command.
use Rattle.std.proofs.Common.{◌≡◌, ◌≢◌, ℕ, ◌+◌, ◌*◌, ◌^◌, ◌≤◌, ◌<◌, Bool, true, false, cond, ◌==◌, List, [], ◌∷◌, ◌++◌, length, length-append, refl, sym, ap, subst, ◌∙◌}
use Rattle.std.proofs.Common.{append_assoc, arith, true≢false}
use Rattle.std.specs.Prelude.{◌&&◌, ◌-◌, if◌then◌else◌, Option, Some, None, nat_lt, codes, option_and_then, fold}
use Rattle.std.specs.List.{list_all}
use Rattle.std.specs.Str.{bytes_eq}
use Rattle.std.proofs.lemmas.Bool.Decides.{nat_tests}
use Rattle.std.proofs.lemmas.List.Folds.{list_all-append}
use Rattle.std.proofs.lemmas.List.Sums.{fold-append}
use Rattle.std.proofs.lemmas.Slice.Eq.{bytes_eq-Decides}
use Rattle.std.proofs.lemmas.List.{append-nil}
use Rattle.line_text.specs.Lines.{IsLine, lines_of, is_digit, is_hexadecimal, joined, decimal_number, hexadecimal_number, hexadecimal_value}
use Rattle.hrv_engines.specs.Commands.{alone, below_most, command_in, command_of, number_of, spelled_by, with_one, with_two, words_of}
use Rattle.hrv_engines.specs.inner.Unended.{BeginsNone, IsKeptOf, MeanSame}
use Rattle.hrv_engines.proofs.Splits.{has_no-append, some_word}

-- ---- the words of two lines one after the other: the last of the first and the first of the second are one

abbrev pub glued : List (List ℕ) → List (List ℕ) → List (List ℕ)
glued [] others = others
glued (word ∷ []) [] = word ∷ []
glued (word ∷ []) (more ∷ others) = (word ++ more) ∷ others
glued (word ∷ next ∷ words) others = word ∷ glued (next ∷ words) others

none_first : (others : List (List ℕ)) → others ≢ [] → others ≡ glued ([] ∷ []) others
none_first [] some = absurd (some refl)
none_first (word ∷ words) some = refl

begins_word : (words others : List (List ℕ)) → words ≢ [] → [] ∷ glued words others ≡ glued ([] ∷ words) others
begins_word [] others some = absurd (some refl)
begins_word (word ∷ words) others some = refl

joins_word : (byte : ℕ) (words others : List (List ℕ)) → words ≢ [] → joined byte (glued words others) ≡ glued (joined byte words) others
joins_word byte [] others some = absurd (some refl)
joins_word byte (word ∷ []) [] some = refl
joins_word byte (word ∷ []) (more ∷ others) some = refl
joins_word byte (word ∷ next ∷ words) others some = refl

one_more : (test : Bool) (byte : ℕ) (words others : List (List ℕ)) → words ≢ []
    → cond test ([] ∷ glued words others) (joined byte (glued words others)) ≡ glued (cond test ([] ∷ words) (joined byte words)) others
one_more true byte words others some = begins_word words others some
one_more false byte words others some = joins_word byte words others some

pub words_glued : (line more : List ℕ) → words_of (line ++ more) ≡ glued (words_of line) (words_of more)
unfolding words_of
words_glued [] more = none_first (words_of more) (some_word more)
words_glued (byte ∷ line) more =
    ap (λ (words : List (List ℕ)). cond (byte == 32) ([] ∷ words) (joined byte words)) (words_glued line more)
    ∙ one_more (byte == 32) byte (words_of line) (words_of more) (some_word line)

-- ---- numbers that are none stay so, whatever follows three bytes

value_grows : (base : ℕ) (value : ℕ → ℕ) (number : ℕ) (digits : List ℕ) → 1 ≤ base → number ≤ fold (λ n byte. n * base + value byte) number digits
value_grows base value number [] some = omega arith
value_grows base value number (digit ∷ digits) some =
    let rest = value_grows base value (number * base + value digit) digits some in
    let more : number ≤ number * base + value digit = times number base (value digit) some in
    omega (arith, rest, more)
  where
    times : (n b v : ℕ) → 1 ≤ b → n ≤ n * b + v
    times n b v some = grind arith

still_none : (class : ℕ → Bool) (value : List ℕ → ℕ) (first : ℕ) (digits more : List ℕ) → value (first ∷ digits) ≤ value ((first ∷ digits) ++ more)
    → spelled_by class value (first ∷ digits) ≡ None → spelled_by class value ((first ∷ digits) ++ more) ≡ None
still_none class value first digits more grows none =
    by (list_all class (first ∷ digits)) (list_all class more) (list_all class ((first ∷ digits) ++ more)) (list_all-append class (first ∷ digits) more) none
  where
    stays : (n m : ℕ) → n ≤ m → below_most n ≡ None → below_most m ≡ None
    stays n m less is = big (nat_lt n (2 ^ 64)) (nat_lt m (2 ^ 64)) refl refl is
      where
        big : (a b : Bool) → nat_lt n (2 ^ 64) ≡ a → nat_lt m (2 ^ 64) ≡ b → cond a (Some n) None ≡ None → cond b (Some m) None ≡ None
        big true b e f is = absurd cc
        big false true e f is = absurd (grind (arith, nat_tests))
        big false false e f is = refl

    by : (a b c : Bool) → c ≡ (a && b) → cond a (below_most (value (first ∷ digits))) None ≡ None
        → cond c (below_most (value ((first ∷ digits) ++ more))) None ≡ None
    by true b true e is = stays (value (first ∷ digits)) (value ((first ∷ digits) ++ more)) grows is
    by false b true e is = absurd (true≢false e)
    by a b false e is = refl

decimal_grows : (digits more : List ℕ) → decimal_number digits ≤ decimal_number (digits ++ more)
decimal_grows digits more =
    let e = fold-append (λ (number byte : ℕ). number * 10 + (byte - 48)) 0 digits more in
    let grows = value_grows 10 (λ byte. byte - 48) (decimal_number digits) more (omega arith) in
    omega (arith, e, grows)

hexadecimal_grows : (digits more : List ℕ) → hexadecimal_number digits ≤ hexadecimal_number (digits ++ more)
hexadecimal_grows digits more =
    let e = fold-append (λ (number byte : ℕ). number * 16 + hexadecimal_value byte) 0 digits more in
    let grows = value_grows 16 hexadecimal_value (hexadecimal_number digits) more (omega arith) in
    omega (arith, e, grows)

pub number_stays_none : (word more : List ℕ) → 3 ≤ length word → number_of word ≡ None → number_of (word ++ more) ≡ None
unfolding number_of
number_stays_none [] more long none = absurd (omega (arith, long))
number_stays_none (a ∷ []) more long none = absurd (omega (arith, long))
number_stays_none (a ∷ b ∷ []) more long none = absurd (omega (arith, long))
number_stays_none (a ∷ b ∷ c ∷ word) more long none = by (a == 48 && b == 120) none
  where
    by : (test : Bool) → cond test (spelled_by is_hexadecimal hexadecimal_number (c ∷ word)) (spelled_by is_digit decimal_number (a ∷ b ∷ c ∷ word)) ≡ None
        → cond test (spelled_by is_hexadecimal hexadecimal_number (c ∷ word ++ more)) (spelled_by is_digit decimal_number (a ∷ b ∷ c ∷ word ++ more)) ≡ None
    by true none = still_none is_hexadecimal hexadecimal_number c word more (hexadecimal_grows (c ∷ word) more) none
    by false none = still_none is_digit decimal_number a (b ∷ c ∷ word) more (decimal_grows (a ∷ b ∷ c ∷ word) more) none

-- ---- what begins no command

-- after a word that begins no number
second_none : (name one : List ℕ) (others : List (List ℕ)) → number_of one ≡ None → command_in (name ∷ one ∷ others) ≡ None
second_none name one [] none = ap (λ n. option_and_then (with_one name) n) none
second_none name one (two ∷ []) none = ap (λ n. option_and_then (λ hart. option_and_then (with_two name hart) (number_of two)) n) none
second_none name one (two ∷ three ∷ others) none = refl

third_none : (name one two : List ℕ) (others : List (List ℕ)) → number_of two ≡ None → command_in (name ∷ one ∷ two ∷ others) ≡ None
third_none name one two [] none = by (number_of one)
  where
    by : (n : Option ℕ) → option_and_then (λ hart. option_and_then (with_two name hart) (number_of two)) n ≡ None
    by None = refl
    by (Some hart) = ap (λ n. option_and_then (with_two name hart) n) none
third_none name one two (three ∷ others) none = refl

-- the words of a line and more, where its last word is known
two_words : (line name one more : List ℕ) → words_of line ≡ name ∷ one ∷ [] → (others : List (List ℕ)) × (w : List ℕ)
    × (words_of (line ++ more) ≡ name ∷ (one ++ w) ∷ others)
two_words line name one more is = by (words_of more) (some_word more) (words_glued line more ∙ ap (λ (ws : List (List ℕ)). glued ws (words_of more)) is)
  where
    by : (ws : List (List ℕ)) → ws ≢ [] → words_of (line ++ more) ≡ glued (name ∷ one ∷ []) ws
        → (others : List (List ℕ)) × (w : List ℕ) × (words_of (line ++ more) ≡ name ∷ (one ++ w) ∷ others)
    by [] some e = absurd (some refl)
    by (w ∷ others) some e = (others, w, e)

three_words : (line name one two more : List ℕ) → words_of line ≡ name ∷ one ∷ two ∷ [] → (others : List (List ℕ)) × (w : List ℕ)
    × (words_of (line ++ more) ≡ name ∷ one ∷ (two ++ w) ∷ others)
three_words line name one two more is = by (words_of more) (some_word more) (words_glued line more ∙ ap (λ (ws : List (List ℕ)). glued ws (words_of more)) is)
  where
    by : (ws : List (List ℕ)) → ws ≢ [] → words_of (line ++ more) ≡ glued (name ∷ one ∷ two ∷ []) ws
        → (others : List (List ℕ)) × (w : List ℕ) × (words_of (line ++ more) ≡ name ∷ one ∷ (two ++ w) ∷ others)
    by [] some e = absurd (some refl)
    by (w ∷ others) some e = (others, w, e)

one_word_more : (line name more : List ℕ) → words_of line ≡ name ∷ [] → (others : List (List ℕ)) × (w : List ℕ)
    × (words_of (line ++ more) ≡ (name ++ w) ∷ others)
one_word_more line name more is = by (words_of more) (some_word more) (words_glued line more ∙ ap (λ (ws : List (List ℕ)). glued ws (words_of more)) is)
  where
    by : (ws : List (List ℕ)) → ws ≢ [] → words_of (line ++ more) ≡ glued (name ∷ []) ws
        → (others : List (List ℕ)) × (w : List ℕ) × (words_of (line ++ more) ≡ (name ++ w) ∷ others)
    by [] some e = absurd (some refl)
    by (w ∷ others) some e = (others, w, e)

-- the words of a line and more begin with those of the line but for the last
rest_follows : (name : List ℕ) (words others : List (List ℕ)) → words ≢ [] → glued (name ∷ words) others ≡ name ∷ glued words others
rest_follows name [] others some = absurd (some refl)
rest_follows name (word ∷ words) others some = refl

glued_some : (words others : List (List ℕ)) → words ≢ [] → glued words others ≢ []
glued_some [] others some e = some refl
glued_some (word ∷ []) [] some e = cc
glued_some (word ∷ []) (more ∷ others) some e = cc
glued_some (word ∷ next ∷ words) others some e = cc

-- a long name is none
differ : (word : List ℕ) (name : List ℕ) → length name < length word → bytes_eq word name ≡ false
differ word name long = by (bytes_eq word name) refl
  where
    by : (b : Bool) → bytes_eq word name ≡ b → b ≡ false
    by true e = (let same = (bytes_eq-Decides word name).0 e in absurd (omega (arith, long, ap length same)))
    by false e = refl

long_alone : (word : List ℕ) → 7 < length word → alone word ≡ None
unfolding alone
long_alone word long =
    rw (
      differ word (codes "next") (omega (arith, long)),
      differ word (codes "back") (omega (arith, long)),
      differ word (codes "forward") (omega (arith, long)),
      differ word (codes "reverse") (omega (arith, long)),
      differ word (codes "status") (omega (arith, long)),
      differ word (codes "quit") (omega (arith, long)),
    )
    refl

long_one : (word : List ℕ) (number : ℕ) → 7 < length word → with_one word number ≡ None
unfolding with_one
long_one word number long =
    rw (
      differ word (codes "goto") (omega (arith, long)),
      differ word (codes "break") (omega (arith, long)),
      differ word (codes "watch") (omega (arith, long)),
      differ word (codes "word") (omega (arith, long)),
    )
    refl

long_two : (word : List ℕ) (hart number : ℕ) → 7 < length word → with_two word hart number ≡ None
unfolding with_two
long_two word hart number long = rw (differ word (codes "reg") (omega (arith, long)), differ word (codes "vec") (omega (arith, long))) refl

long_none : (name : List ℕ) (others : List (List ℕ)) → 7 < length name → command_in (name ∷ others) ≡ None
long_none name [] long = long_alone name long
long_none name (one ∷ []) long = by (number_of one)
  where
    by : (n : Option ℕ) → option_and_then (with_one name) n ≡ None
    by None = refl
    by (Some number) = long_one name number long
long_none name (one ∷ two ∷ []) long = by (number_of one) (number_of two)
  where
    by : (n m : Option ℕ) → option_and_then (λ hart. option_and_then (with_two name hart) m) n ≡ None
    by None m = refl
    by (Some hart) None = refl
    by (Some hart) (Some number) = long_two name hart number long
long_none name (one ∷ two ∷ three ∷ others) long = refl

pub name_alone : (line name : List ℕ) → words_of line ≡ name ∷ [] → 7 < length name → BeginsNone line
unfolding command_of
name_alone line name is long more =
    let found = one_word_more line name more is in
    ap command_in found.2 ∙ long_none (name ++ found.1) found.0 (let l = length-append name found.1 in omega (arith, l, long))

pub number_alone : (line name one : List ℕ) → words_of line ≡ name ∷ one ∷ [] → ((more : List ℕ) → number_of (one ++ more) ≡ None) → BeginsNone line
unfolding command_of
number_alone line name one is none more =
    let found = two_words line name one more is in
    ap command_in found.2 ∙ second_none name (one ++ found.1) found.0 (none found.1)

pub first_is_none : (line name one two : List ℕ) → words_of line ≡ name ∷ one ∷ two ∷ [] → number_of one ≡ None → BeginsNone line
unfolding command_of
first_is_none line name one two is none more =
    let found = three_words line name one two more is in
    ap command_in found.2 ∙ second_none name one ((two ++ found.1) ∷ found.0) none

pub second_is_none : (line name one two : List ℕ) → words_of line ≡ name ∷ one ∷ two ∷ [] → ((more : List ℕ) → number_of (two ++ more) ≡ None) → BeginsNone line
unfolding command_of
second_is_none line name one two is none more =
    let found = three_words line name one two more is in
    ap command_in found.2 ∙ third_none name one (two ++ found.1) found.0 (none found.1)

many_none : (name one two : List ℕ) (others : List (List ℕ)) → others ≢ [] → command_in (name ∷ one ∷ two ∷ others) ≡ None
many_none name one two [] some = absurd (some refl)
many_none name one two (other ∷ others) some = refl

pub four_words : (line name one two rest : List ℕ) → words_of line ≡ name ∷ one ∷ two ∷ words_of rest → BeginsNone line
unfolding command_of
four_words line name one two rest is more =
    let words = words_of rest in
    let some = some_word rest in
    let all : words_of (line ++ more) ≡ name ∷ one ∷ two ∷ glued words (words_of more) =
    words_glued line more ∙ ap (λ (ws : List (List ℕ)). glued ws (words_of more)) is
    ∙ ap (λ (ws : List (List ℕ)). name ∷ one ∷ ws) (rest_follows two words (words_of more) some) in
    ap command_in all ∙ many_none name one two (glued words (words_of more)) (glued_some words (words_of more) some)

-- ---- zeros in front of a number that has two

command_same : (front : List (List ℕ)) (longer shorter : List ℕ) (others : List (List ℕ)) → front ≢ [] → number_of longer ≡ number_of shorter
    → command_in (front ++ longer ∷ others) ≡ command_in (front ++ shorter ∷ others)
command_same [] longer shorter others some same = absurd (some refl)
command_same (name ∷ []) longer shorter [] some same = ap (λ n. option_and_then (with_one name) n) same
command_same (name ∷ []) longer shorter (two ∷ []) some same =
    ap (λ n. option_and_then (λ hart. option_and_then (with_two name hart) (number_of two)) n) same
command_same (name ∷ []) longer shorter (two ∷ three ∷ others) some same = refl
command_same (name ∷ one ∷ []) longer shorter [] some same =
    ap (λ n. option_and_then (λ hart. option_and_then (with_two name hart) n) (number_of one)) same
command_same (name ∷ one ∷ []) longer shorter (three ∷ others) some same = refl
command_same (name ∷ one ∷ two ∷ []) longer shorter others some same = refl
command_same (name ∷ one ∷ two ∷ three ∷ front) longer shorter others some same = refl

spaced_by : (test : Bool) (byte : ℕ) (words others : List (List ℕ)) → words ≢ []
    → cond test ([] ∷ (words ++ others)) (joined byte (words ++ others)) ≡ cond test ([] ∷ words) (joined byte words) ++ others
spaced_by true byte words others some = refl
spaced_by false byte [] others some = absurd (some refl)
spaced_by false byte (word ∷ words) others some = refl

words_spaced : (front rest : List ℕ) → words_of (front ++ 32 ∷ rest) ≡ words_of front ++ words_of rest
unfolding words_of
words_spaced [] rest = refl
words_spaced (byte ∷ front) rest =
    ap (λ (words : List (List ℕ)). cond (byte == 32) ([] ∷ words) (joined byte words)) (words_spaced front rest)
    ∙ spaced_by (byte == 32) byte (words_of front) (words_of rest) (some_word front)

decimal_zeros : (more : List ℕ) → words_of (48 ∷ 48 ∷ 48 ∷ more) ≡ joined 48 (joined 48 (joined 48 (words_of more)))
unfolding words_of
decimal_zeros more = refl

decimal_shorter : (more : List ℕ) → words_of (48 ∷ 48 ∷ more) ≡ joined 48 (joined 48 (words_of more))
unfolding words_of
decimal_shorter more = refl

hexadecimal_zeros : (more : List ℕ) → words_of (48 ∷ 120 ∷ 48 ∷ 48 ∷ more) ≡ joined 48 (joined 120 (joined 48 (joined 48 (words_of more))))
unfolding words_of
hexadecimal_zeros more = refl

hexadecimal_shorter : (more : List ℕ) → words_of (48 ∷ 120 ∷ 48 ∷ more) ≡ joined 48 (joined 120 (joined 48 (words_of more)))
unfolding words_of
hexadecimal_shorter more = refl

decimal_same : (word : List ℕ) → number_of (48 ∷ 48 ∷ 48 ∷ word) ≡ number_of (48 ∷ 48 ∷ word)
unfolding number_of
decimal_same word = refl

hexadecimal_same : (word : List ℕ) → number_of (48 ∷ 120 ∷ 48 ∷ 48 ∷ word) ≡ number_of (48 ∷ 120 ∷ 48 ∷ word)
unfolding number_of
hexadecimal_same word = refl

pub idle_decimal : (front more : List ℕ) → command_of (front ++ 32 ∷ 48 ∷ 48 ∷ 48 ∷ more) ≡ command_of (front ++ 32 ∷ 48 ∷ 48 ∷ more)
unfolding command_of
idle_decimal front more =
    ap command_in (words_spaced front (48 ∷ 48 ∷ 48 ∷ more) ∙ ap (λ (ws : List (List ℕ)). words_of front ++ ws) (decimal_zeros more))
    ∙ by (words_of more) (some_word more)
    ∙ sym (ap command_in (words_spaced front (48 ∷ 48 ∷ more) ∙ ap (λ (ws : List (List ℕ)). words_of front ++ ws) (decimal_shorter more)))
  where
    by : (ws : List (List ℕ)) → ws ≢ [] → command_in (words_of front ++ joined 48 (joined 48 (joined 48 ws))) ≡ command_in (words_of front ++ joined 48 (joined 48 ws))
    by [] some = absurd (some refl)
    by (w ∷ ws) some = command_same (words_of front) (48 ∷ 48 ∷ 48 ∷ w) (48 ∷ 48 ∷ w) ws (some_word front) (decimal_same w)

pub idle_hexadecimal : (front more : List ℕ) → command_of (front ++ 32 ∷ 48 ∷ 120 ∷ 48 ∷ 48 ∷ more) ≡ command_of (front ++ 32 ∷ 48 ∷ 120 ∷ 48 ∷ more)
unfolding command_of
idle_hexadecimal front more =
    ap command_in (words_spaced front (48 ∷ 120 ∷ 48 ∷ 48 ∷ more) ∙ ap (λ (ws : List (List ℕ)). words_of front ++ ws) (hexadecimal_zeros more))
    ∙ by (words_of more) (some_word more)
    ∙ sym (ap command_in (words_spaced front (48 ∷ 120 ∷ 48 ∷ more) ∙ ap (λ (ws : List (List ℕ)). words_of front ++ ws) (hexadecimal_shorter more)))
  where
    by : (ws : List (List ℕ)) → ws ≢ []
        → command_in (words_of front ++ joined 48 (joined 120 (joined 48 (joined 48 ws)))) ≡ command_in (words_of front ++ joined 48 (joined 120 (joined 48 ws)))
    by [] some = absurd (some refl)
    by (w ∷ ws) some = command_same (words_of front) (48 ∷ 120 ∷ 48 ∷ 48 ∷ w) (48 ∷ 120 ∷ 48 ∷ w) ws (some_word front) (hexadecimal_same w)

-- ---- bytes one after the other

pub none_kept : (line : List ℕ) → IsKeptOf line [] line
none_kept line = record {
  same = λ more. ap (λ (l : List ℕ). command_of (l ++ more)) (append-nil line);
  is_line = λ is nothing. is;
  none = λ e. sym (append-nil line) ∙ e;
  some = λ e. append-nil line ∙ e;
}

pub one_pushed : (line : List ℕ) (byte : ℕ) (kept : List ℕ) → kept ≡ line ++ byte ∷ [] → IsKeptOf line (byte ∷ []) kept
one_pushed line byte kept is = record {
  same = λ more. ap (λ (l : List ℕ). command_of (l ++ more)) (sym is);
  is_line = λ own others. subst IsLine (sym is) (has_no-append 10 line (byte ∷ []) own others);
  none = λ e. is ∙ e;
  some = λ e. sym is ∙ e;
}

-- a list that ends with a byte has one
ends_some : (line : List ℕ) (byte : ℕ) → line ++ byte ∷ [] ≢ []
ends_some [] byte e = absurd cc
ends_some (x ∷ line) byte e = absurd cc

pub one_left_out : (line : List ℕ) (byte : ℕ) → MeanSame (line ++ byte ∷ []) line → 1 ≤ length line → IsKeptOf line (byte ∷ []) line
one_left_out line byte same some = record {
  same = same;
  is_line = λ own others. own;
  none = λ e. absurd (ends_some line byte e);
  some = λ e. (let nothing = ap length e in absurd (omega (arith, some, nothing)));
}

pub all_left_out : (line bytes : List ℕ) → BeginsNone line → 1 ≤ length line → IsKeptOf line bytes line
all_left_out line bytes none some = record {
  same = λ more. ap command_of (append_assoc line bytes more) ∙ none (bytes ++ more) ∙ sym (none more);
  is_line = λ own others. own;
  none = λ e. (let nothing = ap length e in let whole = length-append line bytes in absurd (omega (arith, some, nothing, whole)));
  some = λ e. (let nothing = ap length e in absurd (omega (arith, some, nothing)));
}

pub one_more_kept : (line bytes kept : List ℕ) (byte : ℕ) (next : List ℕ) → IsKeptOf line bytes kept → IsKeptOf kept (byte ∷ []) next
    → IsKeptOf line (bytes ++ byte ∷ []) next
one_more_kept line bytes kept byte next before one = record {
  same = λ more.
      ap command_of (append_assoc line (bytes ++ byte ∷ []) more ∙ ap (λ (l : List ℕ). line ++ l) (append_assoc bytes (byte ∷ []) more)
      ∙ sym (append_assoc line bytes (byte ∷ more)))
      ∙ before.same (byte ∷ more) ∙ ap command_of (sym (append_assoc kept (byte ∷ []) more)) ∙ one.same more;
  is_line = λ own others.
      one.is_line (before.is_line own (front_is bytes others)) (last_is bytes others);
  none = λ e. absurd (ends_some (line ++ bytes) byte (append_assoc line bytes (byte ∷ []) ∙ e));
  some = λ e. absurd (ends_some kept byte (one.some e));
}
  where
    front_is : (xs : List ℕ) → IsLine (xs ++ byte ∷ []) → IsLine xs
    front_is [] is = tt
    front_is (x ∷ xs) is = (is.0, front_is xs is.1)

    last_is : (xs : List ℕ) → IsLine (xs ++ byte ∷ []) → IsLine (byte ∷ [])
    last_is [] is = is
    last_is (x ∷ xs) is = last_is xs is.1

-- ---- zeros at a line's end

pub zeros_idle : (line front : List ℕ) → line ≡ front ++ (32 ∷ 48 ∷ 48 ∷ []) → MeanSame (line ++ 48 ∷ []) line
zeros_idle line front is more =
    ap command_of (ap (λ (l : List ℕ). (l ++ 48 ∷ []) ++ more) is ∙ append_assoc (front ++ (32 ∷ 48 ∷ 48 ∷ [])) (48 ∷ []) more
    ∙ append_assoc front (32 ∷ 48 ∷ 48 ∷ []) (48 ∷ more))
    ∙ idle_decimal front more
    ∙ ap command_of (sym (ap (λ (l : List ℕ). l ++ more) is ∙ append_assoc front (32 ∷ 48 ∷ 48 ∷ []) more))

pub hexadecimal_zeros_idle : (line front : List ℕ) → line ≡ front ++ (32 ∷ 48 ∷ 120 ∷ 48 ∷ []) → MeanSame (line ++ 48 ∷ []) line
hexadecimal_zeros_idle line front is more =
    ap command_of (ap (λ (l : List ℕ). (l ++ 48 ∷ []) ++ more) is ∙ append_assoc (front ++ (32 ∷ 48 ∷ 120 ∷ 48 ∷ [])) (48 ∷ []) more
    ∙ append_assoc front (32 ∷ 48 ∷ 120 ∷ 48 ∷ []) (48 ∷ more))
    ∙ idle_hexadecimal front more
    ∙ ap command_of (sym (ap (λ (l : List ℕ). l ++ more) is ∙ append_assoc front (32 ∷ 48 ∷ 120 ∷ 48 ∷ []) more))

pub none_idle : (line : List ℕ) (byte : ℕ) → BeginsNone line → MeanSame (line ++ byte ∷ []) line
none_idle line byte none more = ap command_of (append_assoc line (byte ∷ []) more) ∙ none (byte ∷ more) ∙ sym (none more)

-- ---- the first line of a text that a line begins, and those after it

abbrev pub front_of : List ℕ → List ℕ
front_of [] = []
front_of (byte ∷ text) = if byte == 10 then [] else byte ∷ front_of text

abbrev pub behind : List ℕ → List (List ℕ)
behind [] = []
behind (byte ∷ text) = if byte == 10 then lines_of text else behind text

first_joined : (byte : ℕ) (text : List ℕ) → joined byte (lines_of text) ≡ (byte ∷ front_of text) ∷ behind text
unfolding lines_of
first_joined byte [] = refl
first_joined byte (next ∷ text) = by (next == 10) (first_joined next text)
  where
    by : (test : Bool) → joined next (lines_of text) ≡ (next ∷ front_of text) ∷ behind text
        → joined byte (cond test ([] ∷ lines_of text) (joined next (lines_of text)))
        ≡ (byte ∷ cond test [] (next ∷ front_of text)) ∷ cond test (lines_of text) (behind text)
    by true e = refl
    by false e = ap (λ (lines : List (List ℕ)). joined byte lines) e

joins : (test : Bool) (byte : ℕ) (lines : List (List ℕ)) → test ≡ false → cond test ([] ∷ lines) (joined byte lines) ≡ joined byte lines
joins test byte lines e = rw e refl

pub line_begins : (line text : List ℕ) → IsLine line → line ≢ [] → lines_of (line ++ text) ≡ (line ++ front_of text) ∷ behind text
unfolding lines_of
line_begins [] text is some = absurd (some refl)
line_begins (byte ∷ []) text is some = joins (byte == 10) byte (lines_of text) (grind arith) ∙ first_joined byte text
line_begins (byte ∷ next ∷ line) text is some =
    joins (byte == 10) byte _ (grind arith)
    ∙ ap (λ (lines : List (List ℕ)). joined byte lines) (line_begins (next ∷ line) text is.1 (λ e. cc))
