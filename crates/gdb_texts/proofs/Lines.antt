-- Lines of registers, one more at the end.
use Rattle.std.proofs.Common.{◌≡◌, ℕ, ◌+◌, List, ◌++◌, refl, sym, ap, ◌∙◌, append_assoc, add-one}
use Rattle.gdb_texts.specs.Texts.{integer_line, integer_lines, vector_line, vector_lines}

-- a text that grew twice
pub joined : (start middle end front back all : List ℕ) → middle ≡ start ++ front → end ≡ middle ++ back → all ≡ front ++ back → end ≡ start ++ all
joined start middle end front back all a b c = b ∙ ap (λ text. text ++ back) a ∙ append_assoc start front back ∙ ap (λ text. start ++ text) (sym c)

pub integer_lines-more : (number : ℕ) → integer_lines (number + 1) ≡ integer_lines number ++ integer_line number
unfolding integer_lines
integer_lines-more number = rw add-one refl

pub vector_lines-more : (number : ℕ) → vector_lines (number + 1) ≡ vector_lines number ++ vector_line number
unfolding vector_lines
vector_lines-more number = rw add-one refl
