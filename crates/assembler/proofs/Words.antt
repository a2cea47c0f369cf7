-- Words of instructions, by the instruction table.
use Rattle.std.proofs.Common.{◌≡◌, ℕ, ℤ, List, Ok, refl, sym}
use Rattle.rv_insn.specs.Table.{Means, fields_of}
use Rattle.rv_insn.specs.declared.instructions.Insn.{Insn}
use Rattle.assembler_mnemonics.specs.declared.forms.MnemonicForm.{MnemonicForm}
use Rattle.assembler_mnemonics.specs.Forms.{form_of, IsWord}
use Rattle.assembler_mnemonics.specs.Slots.{shape, blank}
use Rattle.assembler_mnemonics.specs.Placing.{placed}
use Rattle.assembler_mnemonics.proofs.Instructions.{means_is_word}
use Rattle.assembler_syntax.specs.declared.statements.Operand.{Operand}
use Rattle.assembler.specs.Judging.{Context, given_all, instruction}
use Rattle.assembler.specs.Products.{Performs}
use Rattle.assembler.specs.declared.products.LineProduct.TheVariants as p

-- the word of an instruction is that of its form and its fields
pub word_of : (word : ℕ) (insn : Insn) (form : MnemonicForm) (fields : List ℤ) → Means word insn → form_of insn ≡ form → fields_of insn ≡ fields
    → IsWord word form fields
word_of word insn form fields means form_is fields_are = rw (sym form_is, sym fields_are) ((means_is_word word insn).0 means)

-- what a form with operands gives, where they fill its fields
pub gives_word : (c : Context) (form : MnemonicForm) (operands : List Operand) (word : ℕ) (pairs : List (ℕ × ℤ))
    → given_all c (shape form) operands ≡ Ok pairs → IsWord word form (placed (blank form) pairs) → Performs (instruction c form operands) (Ok (p.Word word))
gives_word c form operands word pairs e is = rw e (_, refl, (is, tt))
