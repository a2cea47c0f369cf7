-- Lines that are appended one after the other.
use Rattle.std.proofs.Common.{◌≡◌, ℕ, List, [], ◌∷◌, ◌++◌, sym, ap, ◌∙◌}
use Rattle.std.proofs.lemmas.List.{append_assoc, append-nil}
use Rattle.line_text.specs.Lines.{text_of}

-- the lines so far and those that are left, one line further
pub line_further : (text more whole : List ℕ) (line : List ℕ) (lines : List (List ℕ)) → more ≡ text ++ (line ++ 10 ∷ [])
    → text ++ text_of (line ∷ lines) ≡ whole → more ++ text_of lines ≡ whole
line_further text more whole line lines pushed so_far =
    ap (λ (t : List ℕ). t ++ text_of lines) pushed ∙ append_assoc text (line ++ 10 ∷ []) (text_of lines) ∙ so_far

-- none is left
pub all_pushed : (text whole : List ℕ) → text ++ text_of [] ≡ whole → text ≡ whole
all_pushed text whole so_far = sym (append-nil text) ∙ so_far
