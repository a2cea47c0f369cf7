-- Bytes before the first of a kind, and lists of words and lines that are cut there.
use Rattle.std.proofs.Common.{◌≡◌, ◌≢◌, ℕ, ◌+◌, suc, Bool, true, false, not, cond, ◌==◌, List, [], ◌∷◌, ◌++◌, take, drop, length, refl, sym, ap, subst, ◌∙◌}
use Rattle.std.proofs.Common.{arith}
use Rattle.std.specs.Prelude.{None}
use Rattle.std.proofs.lemmas.List.{append-nil}
use Rattle.std.specs.List.{AllByRecursion, prefix_len}
use Rattle.std.proofs.lemmas.Bool.Decides.{nat_tests}
use Rattle.line_text.specs.Lines.{joined, lines_of}
use Rattle.hrv_engines.specs.Commands.{command_in, command_of, words_of}

-- no byte is the mark
abbrev pub HasNo : ℕ → List ℕ → Type 0
HasNo mark bytes = AllByRecursion (λ byte. byte ≢ mark) bytes

abbrev pub before : ℕ → List ℕ → ℕ
before mark bytes = prefix_len (λ byte. not (byte == mark)) bytes

-- what is before the first mark, and what is from it on
pub record Cut (mark : ℕ) (front rest : List ℕ) : Type 0 where
  pub clean : HasNo mark front
  pub first : (byte : ℕ) (others : List ℕ) → rest ≡ byte ∷ others → byte ≡ mark

cut_more : (test : Bool) (mark byte : ℕ) (bytes : List ℕ) → byte == mark ≡ test → Cut mark (take (before mark bytes) bytes) (drop (before mark bytes) bytes)
    → Cut mark (take (cond (not test) (1 + before mark bytes) 0) (byte ∷ bytes)) (drop (cond (not test) (1 + before mark bytes) 0) (byte ∷ bytes))
cut_more true mark byte bytes is cut = record {
  clean = tt;
  first = λ b others e. ap (λ (l : List ℕ). first_of l) (sym e) ∙ grind (arith, nat_tests);
}
  where
    first_of : List ℕ → ℕ
    first_of [] = 0
    first_of (x ∷ xs) = x
cut_more false mark byte bytes is cut =
    let e : 1 + before mark bytes ≡ suc (before mark bytes) = omega arith in
    let apart : byte ≢ mark = grind (arith, nat_tests) in
    rw e (record { clean = (apart, cut.clean); first = cut.first })

length_zero : (xs : List ℕ) → length xs ≡ 0 → xs ≡ []
length_zero [] e = refl
length_zero (x ∷ xs) e = absurd (omega (arith, e))

pub cut : (mark : ℕ) (bytes : List ℕ) → Cut mark (take (before mark bytes) bytes) (drop (before mark bytes) bytes)
cut mark [] = record { clean = tt; first = λ b others e. absurd (nil_cons b others e) }
  where
    is_nil : List ℕ → Type 0
    is_nil [] = Unit {0}
    is_nil (x ∷ xs) = ⊥

    nil_cons : (b : ℕ) (others : List ℕ) → [] ≡ b ∷ others → ⊥
    nil_cons b others e = subst is_nil e tt
cut mark (byte ∷ bytes) = cut_more (byte == mark) mark byte bytes refl (cut mark bytes)

-- what a cut leaves, where nothing follows and where something does
pub all_clean : (mark n : ℕ) (bytes front rest : List ℕ) → n ≡ before mark bytes → front ≡ take n bytes → bytes ≡ front ++ rest → length rest ≡ 0
    → HasNo mark bytes
all_clean mark n bytes front rest at is_front split none =
    let nothing : rest ≡ [] = length_zero rest none in
    let all : front ≡ bytes = sym (append-nil front) ∙ ap (λ r. front ++ r) (sym nothing) ∙ sym split in
    subst (HasNo mark) (sym (is_front ∙ ap (λ k. take k bytes) at) ∙ all) (cut mark bytes).clean

pub cut_here : (mark n : ℕ) (bytes front rest : List ℕ) (byte : ℕ) (others : List ℕ) → n ≡ before mark bytes → front ≡ take n bytes → rest ≡ drop n bytes
    → bytes ≡ front ++ rest
    → rest ≡ byte ∷ others → (bytes ≡ front ++ mark ∷ others) × HasNo mark front
cut_here mark n bytes front rest byte others at is_front is_rest split some =
    let it : byte ≡ mark = (cut mark bytes).first byte others (sym (is_rest ∙ ap (λ k. drop k bytes) at) ∙ some) in (
      split ∙ ap (λ r. front ++ r) (some ∙ ap (λ b. b ∷ others) it),
      subst (HasNo mark) (sym (is_front ∙ ap (λ k. take k bytes) at)) (cut mark bytes).clean,
    )

-- ---- words

joins : (test : Bool) (byte : ℕ) (parts : List (List ℕ)) → test ≡ false → cond test ([] ∷ parts) (joined byte parts) ≡ joined byte parts
joins test byte parts e = rw e refl

pub one_word : (line : List ℕ) → HasNo 32 line → words_of line ≡ line ∷ []
unfolding words_of
one_word [] is = refl
one_word (byte ∷ line) is =
    joins (byte == 32) byte _ (grind arith) ∙ ap (λ (words : List (List ℕ)). joined byte words) (one_word line is.1)

pub word_and_more : (word rest : List ℕ) → HasNo 32 word → words_of (word ++ 32 ∷ rest) ≡ word ∷ words_of rest
unfolding words_of
word_and_more [] rest is = refl
word_and_more (byte ∷ word) rest is =
    joins (byte == 32) byte _ (grind arith) ∙ ap (λ (words : List (List ℕ)). joined byte words) (word_and_more word rest is.1)

-- there is always a word
joined_some : (byte : ℕ) (parts : List (List ℕ)) → joined byte parts ≢ []
joined_some byte [] e = cc
joined_some byte (part ∷ parts) e = cc

some_by : (test : Bool) (byte : ℕ) (parts : List (List ℕ)) → cond test ([] ∷ parts) (joined byte parts) ≢ []
some_by true byte parts e = cc
some_by false byte parts e = joined_some byte parts e

pub some_word : (line : List ℕ) → words_of line ≢ []
unfolding words_of
some_word [] e = cc
some_word (byte ∷ line) e = some_by (byte == 32) byte (words_of line) e

no_more : (name one two : List ℕ) (others : List (List ℕ)) → others ≢ [] → command_in (name ∷ one ∷ two ∷ others) ≡ None
no_more name one two [] some = absurd (some refl)
no_more name one two (other ∷ others) some = refl

-- four words and more are no command
pub too_many : (line rest rest' rest'' name one two : List ℕ) → words_of line ≡ name ∷ words_of rest → words_of rest ≡ one ∷ words_of rest'
    → words_of rest' ≡ two ∷ words_of rest''
    → None ≡ command_of line
unfolding command_of
too_many line rest rest' rest'' name one two a b c =
    let all : words_of line ≡ name ∷ one ∷ two ∷ words_of rest'' = a ∙ ap (λ (ws : List (List ℕ)). name ∷ ws) (b ∙ ap (λ (ws : List (List ℕ)). one ∷ ws) c) in
    sym (ap command_in all ∙ no_more name one two (words_of rest'') (some_word rest''))

-- ---- lines

pub line_and_more : (line rest : List ℕ) → HasNo 10 line → lines_of (line ++ 10 ∷ rest) ≡ line ∷ lines_of rest
unfolding lines_of
line_and_more [] rest is = refl
line_and_more (byte ∷ line) rest is =
    joins (byte == 10) byte _ (grind arith) ∙ ap (λ (lines : List (List ℕ)). joined byte lines) (line_and_more line rest is.1)

pub last_line : (line : List ℕ) → HasNo 10 line → line ≢ [] → lines_of line ≡ line ∷ []
unfolding lines_of
last_line [] is some = absurd (some refl)
last_line (byte ∷ []) is some = joins (byte == 10) byte [] (grind arith)
last_line (byte ∷ next ∷ line) is some =
    joins (byte == 10) byte _ (grind arith) ∙ ap (λ (lines : List (List ℕ)). joined byte lines) (last_line (next ∷ line) is.1 (λ e. cc))

-- bytes without a line feed, in front of others
pub has_no-append : (mark : ℕ) (xs ys : List ℕ) → HasNo mark xs → HasNo mark ys → HasNo mark (xs ++ ys)
has_no-append mark [] ys no_x no_y = no_y
has_no-append mark (x ∷ xs) ys no_x no_y = (no_x.0, has_no-append mark xs ys no_x.1 no_y)
