-- The slots of a form name fields that the form has.
use Rattle.std.proofs.Common.{length, arith}
use Rattle.assembler_mnemonics.specs.declared.forms.MnemonicForm.{MnemonicForm}
use Rattle.assembler_mnemonics.specs.Slots.{shape, blank, vector_shape, vector_blank}
use Rattle.disassembler.specs.Reaching.{AllReach}

pub form_reaches : (form : MnemonicForm) → AllReach (length (blank form)) (shape form)
unfolding shape blank vector_shape vector_blank
form_reaches form = grind arith
