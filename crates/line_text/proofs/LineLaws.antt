-- The lines of a text are its first one and those of what follows.
use Rattle.std.proofs.Common.{◌≡◌, ◌≢◌, ℕ, ◌+◌, suc, Bool, true, false, not, cond, ◌==◌, List, [], ◌∷◌, take, drop, refl, ap, arith}
use Rattle.std.specs.List.{prefix_len}
use Rattle.line_text.specs.Lines.{lines_of, joined, is_in_line, after_first, first_line}

-- a text begins so with its first line
abbrev pub Splits : List ℕ → Type 0
Splits text = lines_of text ≡ (first_line text).0 ∷ lines_of (first_line text).1

longer : (byte : ℕ) (text : List ℕ) → (text ≢ [] → Splits text) → joined byte (lines_of text) ≡ (byte ∷ take (prefix_len is_in_line text) text)
    ∷ lines_of (after_first (drop (prefix_len is_in_line text) text))
unfolding lines_of
longer byte [] splits = refl
longer byte (next ∷ text) splits = ap (λ (lines : List (List ℕ)). joined byte lines) (splits (λ e. cc))

splits_at : (test : Bool) (byte : ℕ) (text : List ℕ) → (text ≢ [] → Splits text)
    → cond test ([] ∷ lines_of text) (joined byte (lines_of text)) ≡ take (cond (not test) (1 + prefix_len is_in_line text) 0) (byte ∷ text)
    ∷ lines_of (after_first (drop (cond (not test) (1 + prefix_len is_in_line text) 0) (byte ∷ text)))
splits_at true byte text splits = refl
splits_at false byte text splits =
    let e : 1 + prefix_len is_in_line text ≡ suc (prefix_len is_in_line text) = omega arith in
    rw e (longer byte text splits)

pub splits : (text : List ℕ) → text ≢ [] → Splits text
unfolding lines_of
splits [] some = absurd (some refl)
splits (byte ∷ text) some = splits_at (byte == 10) byte text (splits text)

pub no_lines : (text : List ℕ) → text ≡ [] → lines_of text ≡ []
unfolding lines_of
no_lines text e = rw e refl
