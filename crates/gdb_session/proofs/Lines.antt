-- Texts of one more part at the end.
use Rattle.std.proofs.Common.{◌≡◌, ℕ, suc, ◌+◌, List, ◌++◌, refl, sym, ap, ◌∙◌, append_assoc, add-one, arith}
use Rattle.hart_core.specs.HartState.{HartState, register, vector}
use Rattle.gdb_session.specs.Texts.{hex_of, integers, listed, threads, vectors, word_text}

-- a text that grew twice
pub joined : (start middle end front back all : List ℕ) → middle ≡ start ++ front → end ≡ middle ++ back → all ≡ front ++ back → end ≡ start ++ all
joined start middle end front back all a b c = b ∙ ap (λ text. text ++ back) a ∙ append_assoc start front back ∙ ap (λ text. start ++ text) (sym c)

pub threads-more : (hart : ℕ) → threads (hart + 1) ≡ threads hart ++ listed hart
unfolding threads
threads-more hart = let next : hart + 1 ≡ suc hart = omega arith in ap threads next

pub integers-more : (hart : HartState) (number : ℕ) → integers hart (number + 1) ≡ integers hart number ++ word_text (register hart number)
unfolding integers
integers-more hart number = rw add-one refl

pub vectors-more : (hart : HartState) (number : ℕ) → vectors hart (number + 1) ≡ vectors hart number ++ hex_of (vector hart number)
unfolding vectors
vectors-more hart number = rw add-one refl
