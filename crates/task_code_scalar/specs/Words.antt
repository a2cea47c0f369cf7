-- Words that spell instructions, one after the other. This project's own.
use Rattle.std.specs.Prelude.{◌≡◌, ℕ, List, [], ◌∷◌, ◌++◌, Some}
use Rattle.rv_insn.specs.declared.instructions.Insn.{Insn}
use Rattle.rv_encoding.specs.Decoding.{decoded}

abbrev pub Spell : List ℕ → List Insn → Type 0
Spell [] [] = Unit {0}
Spell [] (insn ∷ insns) = ⊥
Spell (word ∷ words) [] = ⊥
Spell (word ∷ words) (insn ∷ insns) = (decoded word ≡ Some insn) × Spell words insns

-- words of these instructions are appended
pub record Emits (old new : List ℕ) (insns : List Insn) : Type 0 where
  pub words : List ℕ
  pub appended : new ≡ old ++ words
  pub spelled : Spell words insns
