-- Texts of registers, one more at the end.
use Rattle.std.proofs.Common.{◌≡◌, ◌∙◌, ◌+◌, ℕ, refl, sym, ap, List, ◌++◌, add-one, append_assoc}
use Rattle.hart_core.specs.HartState.{HartState, register, vector}
use Rattle.turn_traces.specs.TraceText.{scalar_text, scalars_text, vector_text, vectors_text}

-- a text that grew twice
pub joined : (start middle end front back all : List ℕ) → middle ≡ start ++ front → end ≡ middle ++ back → all ≡ front ++ back → end ≡ start ++ all
joined start middle end front back all a b c = b ∙ ap (λ text. text ++ back) a ∙ append_assoc start front back ∙ ap (λ text. start ++ text) (sym c)

pub scalars_text-more : (before after : HartState) (r : ℕ) → scalars_text before after (r + 1) ≡ scalars_text before after r
    ++ scalar_text (register before r) (register after r) r
unfolding scalars_text
scalars_text-more before after r = rw add-one refl

pub vectors_text-more : (before after : HartState) (v : ℕ) → vectors_text before after (v + 1) ≡ vectors_text before after v
    ++ vector_text (vector before v) (vector after v) v
unfolding vectors_text
vectors_text-more before after v = rw add-one refl
