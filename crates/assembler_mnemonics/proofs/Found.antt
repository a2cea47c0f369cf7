-- Mnemonics tell forms apart.
use Rattle.std.proofs.Common.{arith, ◌≡◌, ℕ, List, Some}
use Rattle.std.specs.Str.{bytes_eq}
use Rattle.std.proofs.lemmas.Slice.Eq.{bytes_eq-Decides}
use Rattle.assembler_mnemonics.specs.declared.forms.MnemonicForm.{MnemonicForm}
use Rattle.assembler_mnemonics.specs.Forms.{mnemonic}
use Rattle.assembler_mnemonics.specs.Named.{forms, vector_forms, form_among, form_named}
use Rattle.assembler_mnemonics.proofs.Named.{find_passes}

-- a form is found by its mnemonic
pub found : (form : MnemonicForm) → form_named (mnemonic form) ≡ Some form
unfolding form_among forms vector_forms
found form = grind arith

-- what is found has the mnemonic
pub found_by : (name : List ℕ) (form : MnemonicForm) → form_named name ≡ Some form → mnemonic form ≡ name
unfolding form_among
found_by name form e = (bytes_eq-Decides (mnemonic form) name).0 (find_passes (λ form. bytes_eq (mnemonic form) name) forms form e)
