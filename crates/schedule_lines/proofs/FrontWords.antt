-- The words of bytes are the first one and those after it.
use Rattle.std.proofs.Common.{◌≡◌, ℕ, ◌+◌, suc, Bool, true, false, not, cond, ◌==◌, List, [], ◌∷◌, ◌++◌, take, drop, refl, ap, arith}
use Rattle.std.specs.List.{prefix_len}
use Rattle.line_text.specs.Lines.{joined, after_first}
use Rattle.schedule_lines.specs.Lines.{words_of, word_of, is_in_word, goes_on}

-- bytes begin so with their first word
abbrev pub Splits : List ℕ → Type 0
Splits text = words_of text ≡ word_of (take (prefix_len is_in_word text) text) ++ words_of (after_first (drop (prefix_len is_in_word text) text))

-- the next byte is one of the word, or a space
goes_on_at : (test : Bool) (byte next : ℕ) (text : List ℕ)
    → cond test (words_of text) (cond (goes_on text) (joined next (words_of text)) ((next ∷ []) ∷ words_of text))
    ≡ word_of (take (cond (not test) (1 + prefix_len is_in_word text) 0) (next ∷ text))
    ++ words_of (after_first (drop (cond (not test) (1 + prefix_len is_in_word text) 0) (next ∷ text)))
    → cond (not test)
    (joined byte (cond test (words_of text) (cond (goes_on text) (joined next (words_of text)) ((next ∷ []) ∷ words_of text))))
    ((byte ∷ []) ∷ cond test (words_of text) (cond (goes_on text) (joined next (words_of text)) ((next ∷ []) ∷ words_of text)))
    ≡ (byte ∷ take (cond (not test) (1 + prefix_len is_in_word text) 0) (next ∷ text))
    ∷ words_of (after_first (drop (cond (not test) (1 + prefix_len is_in_word text) 0) (next ∷ text)))
unfolding words_of
goes_on_at true byte next text splits = refl
goes_on_at false byte next text splits =
    let e : 1 + prefix_len is_in_word text ≡ suc (prefix_len is_in_word text) = omega arith in
    rw e (ap (λ (words : List (List ℕ)). joined byte words) (rw e at splits))

longer : (byte : ℕ) (text : List ℕ) → Splits text
    → cond (goes_on text) (joined byte (words_of text)) ((byte ∷ []) ∷ words_of text) ≡ (byte ∷ take (prefix_len is_in_word text) text)
    ∷ words_of (after_first (drop (prefix_len is_in_word text) text))
unfolding words_of
longer byte [] splits = refl
longer byte (next ∷ text) splits = goes_on_at (next == 32) byte next text splits

splits_at : (test : Bool) (byte : ℕ) (text : List ℕ) → Splits text
    → cond test (words_of text) (cond (goes_on text) (joined byte (words_of text)) ((byte ∷ []) ∷ words_of text))
    ≡ word_of (take (cond (not test) (1 + prefix_len is_in_word text) 0) (byte ∷ text))
    ++ words_of (after_first (drop (cond (not test) (1 + prefix_len is_in_word text) 0) (byte ∷ text)))
splits_at true byte text splits = refl
splits_at false byte text splits =
    let e : 1 + prefix_len is_in_word text ≡ suc (prefix_len is_in_word text) = omega arith in
    rw e (longer byte text splits)

pub splits : (text : List ℕ) → Splits text
unfolding words_of
splits [] = refl
splits (byte ∷ text) = splits_at (byte == 32) byte text (splits text)

pub no_words : (text : List ℕ) → text ≡ [] → words_of text ≡ []
unfolding words_of
no_words text e = rw e refl
