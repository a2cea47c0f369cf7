-- The listing of a word: a line of assembly text, ended by a line feed.
-- This project's own, after the assembly syntax of RISC-V Unprivileged ISA 20191213, chapter 25, and of
-- Vector Extension 1.0, sections 5.3, 6, 7 and 10.
use Rattle.std.specs.Prelude.{ℕ, zero, suc, ◌+◌, ◌/◌, ◌%◌, ◌==◌, nat_lt, Bool, true, if◌then◌else◌, ℤ, pos, ◌*ℤ◌, unsigned_abs, List, [], ◌∷◌, ◌++◌, codes}
use Rattle.std.specs.Prelude.{Option, Some, None}
use Rattle.std.specs.Fmt.{signed_decimal}
use Rattle.rv_insn.specs.Table.{fields_of}
use Rattle.rv_insn.specs.declared.instructions.Insn.{Insn}
use Rattle.rv_encoding.specs.Decoding.{decoded}
use Rattle.assembler_mnemonics.specs.Forms.{form_of, mnemonic}
use Rattle.assembler_mnemonics.specs.Slots.{shape, field_at}
use Rattle.assembler_mnemonics.specs.Configuration.{width_names, group_names, tail_names, mask_names, width_code, group_code, tail_code, mask_code, has_names}
use Rattle.assembler_mnemonics.specs.Configuration.{name_at}
use Rattle.assembler_mnemonics.specs.Registers.{integer_letter, vector_letter}
use Rattle.assembler_mnemonics.specs.declared.slots.Slot.{Slot}
use Rattle.assembler_mnemonics.specs.declared.slots.Slot.TheVariants.{Integer, Vector, MaskRegister, Number, Upper, Based, Address, Target, Configuration, Mask}

-- ---- numbers

-- a hexadecimal digit, `0` to `9` or `a` to `f`
abbrev pub hexadecimal_digit : ℕ → ℕ
hexadecimal_digit d = if nat_lt d 10 then 48 + d else 87 + d

-- the last this many hexadecimal digits of a number
unfoldable pub last_digits : ℕ → ℕ → List ℕ
last_digits zero number = []
last_digits (suc count) number = last_digits count (number / 16) ++ hexadecimal_digit (number % 16) ∷ []

-- `0x` and this many digits
unfoldable pub hexadecimal_text : ℕ → ℕ → List ℕ
hexadecimal_text count number = codes "0x" ++ last_digits count number

-- ---- operands

-- a letter, and the number in a field
abbrev pub register_in : ℕ → List ℤ → ℕ → List ℕ
register_in letter fields field = letter ∷ signed_decimal (field_at fields field)

-- the same within brackets
abbrev pub bracketed : List ℕ → List ℕ
bracketed text = 40 ∷ text ++ 41 ∷ []

-- four names with commas between them
unfoldable pub names_text : ℕ → List ℕ
names_text vtype =
    name_at width_names (width_code vtype) ++ 44 ∷ name_at group_names (group_code vtype)
    ++ 44 ∷ name_at tail_names (tail_code vtype) ++ 44 ∷ name_at mask_names (mask_code vtype)

-- a vtype by its names where it has them, else by three digits
unfoldable pub vtype_text : ℕ → List ℕ
vtype_text vtype = if has_names vtype then names_text vtype else hexadecimal_text 3 vtype

-- how an operand is written whose slot gives fields; a target is an offset in bytes, of which its field has half
unfoldable pub operand_text : Slot → List ℤ → List ℕ
operand_text (Integer field) fields = register_in integer_letter fields field
operand_text (Vector field) fields = register_in vector_letter fields field
operand_text MaskRegister fields = codes "v0"
operand_text (Number field least greatest) fields = signed_decimal (field_at fields field)
operand_text (Upper field) fields = hexadecimal_text 5 (unsigned_abs (field_at fields field))
operand_text (Based offset base) fields = signed_decimal (field_at fields offset) ++ bracketed (register_in integer_letter fields base)
operand_text (Address base) fields = bracketed (register_in integer_letter fields base)
operand_text (Target field reach) fields = signed_decimal (field_at fields field *ℤ pos 2)
operand_text (Configuration field greatest) fields = vtype_text (unsigned_abs (field_at fields field))
operand_text (Mask field) fields = codes "v0.t"

-- a mask that is 1 isn't written
abbrev pub is_written : Slot → List ℤ → Bool
is_written (Mask field) fields = unsigned_abs (field_at fields field) == 0
is_written slot fields = true

-- later operands, each after a comma
unfoldable pub later_text : List Slot → List ℤ → List ℕ
later_text [] fields = []
later_text (slot ∷ slots) fields = (if is_written slot fields then 44 ∷ operand_text slot fields else []) ++ later_text slots fields

-- what is after a mnemonic: nothing, or a space, the first operand and the later ones
unfoldable pub operands_text : List Slot → List ℤ → List ℕ
operands_text [] fields = []
operands_text (slot ∷ slots) fields = 32 ∷ operand_text slot fields ++ later_text slots fields

-- ---- lines

unfoldable pub instruction_text : Insn → List ℕ
instruction_text insn = mnemonic (form_of insn) ++ operands_text (shape (form_of insn)) (fields_of insn)

-- a word that means no instruction is written as a number
unfoldable pub word_text : ℕ → Option Insn → List ℕ
word_text word None = codes ".word " ++ hexadecimal_text 8 word
word_text word (Some insn) = instruction_text insn

-- the line of a word, without its line feed
abbrev pub line_of : ℕ → List ℕ
line_of word = word_text word (decoded word)

-- and with it
abbrev pub listed : ℕ → List ℕ
listed word = line_of word ++ 10 ∷ []

-- the lines of words, one after the other
unfoldable pub listing : List ℕ → List ℕ
listing [] = []
listing (word ∷ words) = listed word ++ listing words

-- ---- lines that say where their words stand

-- the line of a word, and after it a comment with its address, without a line feed
abbrev pub addressed_line : ℕ → ℕ → List ℕ
addressed_line address word = line_of word ++ codes " # " ++ hexadecimal_text 8 address

-- the lines of words, the first of which is at an address
unfoldable pub addressed_listing : ℕ → List ℕ → List ℕ
addressed_listing address [] = []
addressed_listing address (word ∷ words) = (addressed_line address word ++ 10 ∷ []) ++ addressed_listing (address + 4) words
