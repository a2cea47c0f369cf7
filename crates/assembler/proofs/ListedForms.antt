-- What an instruction shows is read as its form and its fields.
use Rattle.std.proofs.Common.{◌≡◌, ℤ, true, List, [], ◌∷◌, Ok, arith, ap}
use Rattle.rv_insn.specs.Table.{fields_of}
use Rattle.rv_insn.specs.declared.instructions.Insn.{Insn}
use Rattle.assembler_mnemonics.specs.Forms.{form_of}
use Rattle.assembler_mnemonics.specs.Placing.{placed}
use Rattle.assembler_mnemonics.specs.Slots.{shape, vector_shape, blank, vector_blank, FitsSlots}
use Rattle.assembler_mnemonics.specs.declared.forms.MnemonicForm.{MnemonicForm}
use Rattle.disassembler.specs.Reading.{all_shown}
use Rattle.assembler.specs.Judging.{Context, Coded, instruction, these_items}
use Rattle.assembler.proofs.ListedOperands.{own_pairs, all_pairs, is_plain, is_ordered, slots_given}

-- ---- in each form a vtype and a mask stand last

form_ordered : (form : MnemonicForm) → is_ordered (shape form) ≡ true
unfolding is_ordered is_plain shape vector_shape
form_ordered form = grind arith

-- ---- the fields that its slots show fill its blank fields

fields_back : (insn : Insn) → placed (blank (form_of insn)) (all_pairs (shape (form_of insn)) (fields_of insn)) ≡ fields_of insn
unfolding own_pairs all_pairs shape vector_shape blank vector_blank
fields_back insn = grind arith

-- ---- the instruction

pub instruction_back : (c : Context) (insn : Insn) → FitsSlots (fields_of insn) (shape (form_of insn))
    → instruction c (form_of insn) (all_shown (shape (form_of insn)) (fields_of insn)) ≡ Ok (these_items (Coded (form_of insn) (fields_of insn) ∷ []))
instruction_back c insn fits =
    let form = form_of insn in
    let filled = slots_given c (shape form) (fields_of insn) (form_ordered form) fits in
    rw filled (ap (λ (fields : List ℤ). Ok (these_items (Coded form fields ∷ []))) (fields_back insn))
