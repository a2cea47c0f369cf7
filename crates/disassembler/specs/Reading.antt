-- What a listed line says when it is read as assembly text: a mnemonic and operands, and their tokens.
-- This project's own.
use Rattle.std.specs.Prelude.{ℕ, ◌==◌, if◌then◌else◌, ℤ, pos, ◌*ℤ◌, unsigned_abs, List, [], ◌∷◌, ◌++◌, codes, Option, Some, None}
use Rattle.rv_insn.specs.Table.{fields_of}
use Rattle.rv_insn.specs.declared.instructions.Insn.{Insn}
use Rattle.rv_encoding.specs.Decoding.{decoded}
use Rattle.assembler_mnemonics.specs.Forms.{form_of, mnemonic}
use Rattle.assembler_mnemonics.specs.Slots.{shape, field_at}
use Rattle.assembler_mnemonics.specs.Configuration.{width_names, group_names, tail_names, mask_names, width_code, group_code, tail_code, mask_code, has_names}
use Rattle.assembler_mnemonics.specs.Configuration.{name_at}
use Rattle.assembler_mnemonics.specs.Registers.{integer_letter, vector_letter}
use Rattle.assembler_mnemonics.specs.declared.slots.Slot.{Slot}
use Rattle.assembler_mnemonics.specs.declared.slots.Slot.TheVariants.{Integer, Vector, MaskRegister, Number, Upper, Based, Address, Target, Configuration, Mask}
use Rattle.assembler_syntax.specs.declared.tokens.AssemblyToken.{AssemblyToken}
use Rattle.assembler_syntax.specs.declared.tokens.AssemblyToken.TheVariants as t
use Rattle.assembler_syntax.specs.declared.statements.Operand.{Operand}
use Rattle.assembler_syntax.specs.declared.statements.Operand.TheVariants as o
use Rattle.assembler_syntax.specs.declared.statements.Statement.{Statement}
use Rattle.disassembler.specs.Listing.{register_in}

-- ---- the operands that a slot shows: one, but four for a vtype by names, and none for a mask that is 1

unfoldable pub vtype_shown : ℕ → List Operand
vtype_shown vtype =
    if has_names vtype
    then o.Word (name_at width_names (width_code vtype)) ∷ o.Word (name_at group_names (group_code vtype))
    ∷ o.Word (name_at tail_names (tail_code vtype)) ∷ o.Word (name_at mask_names (mask_code vtype)) ∷ []
    else o.Number (pos vtype) ∷ []

unfoldable pub shown : Slot → List ℤ → List Operand
shown (Integer field) fields = o.Word (register_in integer_letter fields field) ∷ []
shown (Vector field) fields = o.Word (register_in vector_letter fields field) ∷ []
shown MaskRegister fields = o.Word (codes "v0") ∷ []
shown (Number field least greatest) fields = o.Number (field_at fields field) ∷ []
shown (Upper field) fields = o.Number (field_at fields field) ∷ []
shown (Based offset base) fields = o.Based (field_at fields offset) (register_in integer_letter fields base) ∷ []
shown (Address base) fields = o.Bracketed (register_in integer_letter fields base) ∷ []
shown (Target field reach) fields = o.Number (field_at fields field *ℤ pos 2) ∷ []
shown (Configuration field greatest) fields = vtype_shown (unsigned_abs (field_at fields field))
shown (Mask field) fields = if unsigned_abs (field_at fields field) == 0 then o.Word (codes "v0.t") ∷ [] else []

unfoldable pub all_shown : List Slot → List ℤ → List Operand
all_shown [] fields = []
all_shown (slot ∷ slots) fields = shown slot fields ++ all_shown slots fields

-- ---- what the line of a word says

abbrev pub mnemonic_said : Option Insn → List ℕ
mnemonic_said None = codes ".word"
mnemonic_said (Some insn) = mnemonic (form_of insn)

abbrev pub operands_said : ℕ → Option Insn → List Operand
operands_said word None = o.Number (pos word) ∷ []
operands_said word (Some insn) = all_shown (shape (form_of insn)) (fields_of insn)

-- no label, a mnemonic and operands
abbrev pub commanding : List ℕ → List Operand → Statement
commanding mnemonic operands = record { label = None; command = Some (record { mnemonic = mnemonic; operands = operands }) }

abbrev pub statement_said : ℕ → Statement
statement_said word = commanding (mnemonic_said (decoded word)) (operands_said word (decoded word))

-- ---- its tokens

abbrev pub operand_tokens : Operand → List AssemblyToken
operand_tokens (o.Word word) = t.Word word ∷ []
operand_tokens (o.Number number) = t.Number number ∷ []
operand_tokens (o.Based number base) = t.Number number ∷ t.Open ∷ t.Word base ∷ t.Close ∷ []
operand_tokens (o.Bracketed base) = t.Open ∷ t.Word base ∷ t.Close ∷ []

-- those of later operands, each after a comma
unfoldable pub later_tokens : List Operand → List AssemblyToken
later_tokens [] = []
later_tokens (operand ∷ operands) = t.Comma ∷ operand_tokens operand ++ later_tokens operands

unfoldable pub operands_tokens : List Operand → List AssemblyToken
operands_tokens [] = []
operands_tokens (operand ∷ operands) = operand_tokens operand ++ later_tokens operands

abbrev pub tokens_said : ℕ → List AssemblyToken
tokens_said word = t.Word (mnemonic_said (decoded word)) ∷ operands_tokens (operands_said word (decoded word))
