-- No listed line has a line feed within.
use Rattle.std.proofs.Common.{◌≡◌, ℕ, suc, ◌<◌, not, true, false, if◌then◌else◌, ℤ, pos, negsuc, ◌*ℤ◌, ◌≤ℤ◌, unsigned_abs, List, [], ◌∷◌, ◌++◌, length, codes}
use Rattle.std.proofs.Common.{refl, ap, ◌∙◌, arith, Option, Some, None}
use Rattle.std.specs.List.{list_all}
use Rattle.std.specs.Fmt.{decimal, signed_decimal}
use Rattle.std.proofs.lemmas.Bool.Decides.{nat_tests}
use Rattle.std.proofs.lemmas.Int.{ints}
use Rattle.std.proofs.lemmas.List.Folds.{list_all-append}
use Rattle.line_text.specs.Lines.{is_in_line, IsLine}
use Rattle.line_text.proofs.Numerals.{decimal_digits}
use Rattle.rv_insn.specs.Table.{fields_of}
use Rattle.rv_insn.specs.declared.instructions.Insn.{Insn}
use Rattle.assembler_mnemonics.specs.Forms.{form_of, mnemonic}
use Rattle.assembler_mnemonics.specs.Slots.{shape, blank, field_at, FitsSlot, FitsSlots}
use Rattle.assembler_mnemonics.specs.Registers.{integer_letter, vector_letter}
use Rattle.assembler_mnemonics.specs.Configuration.{width_names, group_names, tail_names, mask_names, width_code, group_code, tail_code, mask_code, has_names}
use Rattle.assembler_mnemonics.specs.Configuration.{name_at}
use Rattle.assembler_mnemonics.specs.declared.forms.MnemonicForm.{MnemonicForm}
use Rattle.assembler_mnemonics.specs.declared.slots.Slot.{Slot}
use Rattle.assembler_mnemonics.specs.declared.slots.Slot.TheVariants.{Integer, Vector, MaskRegister, Number, Upper, Based, Address, Target, Configuration, Mask}
use Rattle.assembler_syntax.specs.Tokens.{continues_word}
use Rattle.disassembler.specs.Listing.{hexadecimal_digit, hexadecimal_text, register_in, bracketed, names_text, vtype_text, operand_text, is_written}
use Rattle.disassembler.specs.Listing.{later_text, operands_text, instruction_text, word_text}
use Rattle.disassembler.specs.Reaching.{Reaches, AllReach}
use Rattle.disassembler.proofs.Tokens.{is_other, is_word, both_true, both, word_continues}
use Rattle.disassembler.proofs.Numerals.{digits_continue, all_digits, register_word}
use Rattle.disassembler.proofs.Shown.{names_are_words}
use Rattle.disassembler.proofs.Slots.{form_reaches}
use Rattle.disassembler.proofs.Words.{IsFound, mnemonic_word}

abbrev InLine : List ℕ → Type 0
InLine bytes = list_all is_in_line bytes ≡ true

line_is : (bytes : List ℕ) → InLine bytes → IsLine bytes
line_is [] all = tt
line_is (byte ∷ bytes) all =
    let parts = both_true (is_in_line byte) (list_all is_in_line bytes) all in
    (grind (arith, nat_tests, parts.0), line_is bytes parts.1)

appended : (front rest : List ℕ) → InLine front → InLine rest → InLine (front ++ rest)
appended front rest all all' = list_all-append is_in_line front rest ∙ both (list_all is_in_line front) (list_all is_in_line rest) all all'

-- bytes of words are in a line
continuing : (bytes : List ℕ) → list_all continues_word bytes ≡ true → InLine bytes
continuing [] all = refl
continuing (byte ∷ bytes) all =
    let parts = both_true (continues_word byte) (list_all continues_word bytes) all in
    both (is_in_line byte) (list_all is_in_line bytes) (ap not (is_other continues_word byte 10 parts.0 refl)) (continuing bytes parts.1)

word_in_line : (word : List ℕ) → is_word word ≡ true → InLine word
word_in_line word is = continuing word (word_continues word is)

signed_in_line : (number : ℤ) → negsuc 4294967295 ≤ℤ number → number ≤ℤ pos 4294967296 → InLine (signed_decimal number)
signed_in_line (pos n) least most = continuing (decimal n) (digits_continue (decimal n) (decimal_digits n (omega (arith, ints, most))))
signed_in_line (negsuc n) least most = continuing (decimal (suc n)) (digits_continue (decimal (suc n)) (decimal_digits (suc n) (omega (arith, ints, least))))

digit_in_line : (d : ℕ) → d < 16 → is_in_line (hexadecimal_digit d) ≡ true
digit_in_line d small = grind (arith, nat_tests)

hexadecimal_in_line : (count number : ℕ) → InLine (hexadecimal_text count number)
unfolding hexadecimal_text
hexadecimal_in_line count number = all_digits is_in_line digit_in_line count number

register_in_line : (letter : ℕ) (fields : List ℤ) (field : ℕ) → is_word (register_in letter fields field) ≡ true
    → InLine (bracketed (register_in letter fields field))
register_in_line letter fields field is = appended (register_in letter fields field) (41 ∷ []) (word_in_line (register_in letter fields field) is) refl

four_in_line : (a b c d : List ℕ) → is_word a ≡ true → is_word b ≡ true → is_word c ≡ true → is_word d ≡ true → InLine (((a ++ 44 ∷ b) ++ 44 ∷ c) ++ 44 ∷ d)
four_in_line a b c d first second third fourth =
    appended ((a ++ 44 ∷ b) ++ 44 ∷ c) (44 ∷ d)
    (appended (a ++ 44 ∷ b) (44 ∷ c) (appended a (44 ∷ b) (word_in_line a first) (word_in_line b second)) (word_in_line c third)) (word_in_line d fourth)

names_in_line : (vtype : ℕ) → has_names vtype ≡ true → InLine (names_text vtype)
unfolding names_text
names_in_line vtype named = let words = names_are_words vtype named in
    four_in_line (name_at width_names (width_code vtype)) (name_at group_names (group_code vtype)) (name_at tail_names (tail_code vtype))
    (name_at mask_names (mask_code vtype))
    words.0 words.1 words.2 words.3

vtype_in_line : (vtype : ℕ) → InLine (vtype_text vtype)
unfolding vtype_text
vtype_in_line vtype = elim (has_names vtype) as (λ named. has_names vtype ≡ named → InLine (if named then names_text vtype else hexadecimal_text 3 vtype)) [
  | true ↦ λ e. names_in_line vtype e
  | false ↦ λ e. hexadecimal_in_line 3 vtype
] refl

slot_in_line : (slot : Slot) (fields : List ℤ) (count : ℕ) → Reaches count slot → FitsSlot fields slot → InLine (operand_text slot fields)
unfolding operand_text
slot_in_line (Integer field) fields count reach fits = word_in_line (register_in integer_letter fields field) (register_word integer_letter
    (field_at fields field) refl fits.0 fits.1)
slot_in_line (Vector field) fields count reach fits = word_in_line (register_in vector_letter fields field) (register_word vector_letter (field_at fields field)
    refl fits.0 fits.1)
slot_in_line MaskRegister fields count reach fits = refl
slot_in_line (Number field least greatest) fields count reach fits =
    signed_in_line (field_at fields field) (omega (arith, ints, fits.0, reach.1)) (omega (arith, ints, fits.1, reach.2))
slot_in_line (Upper field) fields count reach fits = hexadecimal_in_line 5 (unsigned_abs (field_at fields field))
slot_in_line (Based offset base) fields count reach fits =
    appended (signed_decimal (field_at fields offset)) (bracketed (register_in integer_letter fields base)) (signed_in_line (field_at fields offset)
    (omega (arith, ints, fits.0.0)) (omega (arith, ints, fits.0.1)))
    (register_in_line integer_letter fields base (register_word integer_letter (field_at fields base) refl fits.1.0 fits.1.1))
slot_in_line (Address base) fields count reach fits = register_in_line integer_letter fields base (register_word integer_letter (field_at fields base) refl
    fits.0 fits.1)
slot_in_line (Target field reach') fields count reach fits =
    signed_in_line (field_at fields field *ℤ pos 2) (omega (arith, ints, fits.0, fits.1, reach.1)) (omega (arith, ints, fits.0, fits.1, reach.1))
slot_in_line (Configuration field greatest) fields count reach fits = vtype_in_line (unsigned_abs (field_at fields field))
slot_in_line (Mask field) fields count reach fits = refl

later_in_line : (slots : List Slot) (fields : List ℤ) (count : ℕ) → AllReach count slots → FitsSlots fields slots → InLine (later_text slots fields)
unfolding later_text
later_in_line [] fields count reach fits = refl
later_in_line (slot ∷ slots) fields count reach fits =
    let others = later_in_line slots fields count reach.1 fits.1 in
    elim (is_written slot fields) as (λ written. InLine ((if written then 44 ∷ operand_text slot fields else []) ++ later_text slots fields)) [
      | true ↦ appended (operand_text slot fields) (later_text slots fields) (slot_in_line slot fields count reach.0 fits.0) others
      | false ↦ others
    ]

operands_in_line : (slots : List Slot) (fields : List ℤ) (count : ℕ) → AllReach count slots → FitsSlots fields slots → InLine (operands_text slots fields)
unfolding operands_text
operands_in_line [] fields count reach fits = refl
operands_in_line (slot ∷ slots) fields count reach fits =
    appended (operand_text slot fields) (later_text slots fields) (slot_in_line slot fields count reach.0 fits.0) (later_in_line slots fields count reach.1
    fits.1)

word_line : (word : ℕ) (meant : Option Insn) → ((form : MnemonicForm) → IsFound form) → ((insn : Insn) → meant ≡ Some insn
    → FitsSlots (fields_of insn) (shape (form_of insn))) → InLine (word_text word meant)
unfolding word_text instruction_text
word_line word None found fits = hexadecimal_in_line 8 word
word_line word (Some insn) found fits = let form = form_of insn in
    appended (mnemonic form) (operands_text (shape form) (fields_of insn)) (word_in_line (mnemonic form) (mnemonic_word form (found form)))
    (operands_in_line (shape form) (fields_of insn) (length (blank form)) (form_reaches form) (fits insn refl))

pub is_line : (word : ℕ) (meant : Option Insn) → ((form : MnemonicForm) → IsFound form) → ((insn : Insn) → meant ≡ Some insn
    → FitsSlots (fields_of insn) (shape (form_of insn))) → IsLine (word_text word meant)
is_line word meant found fits = line_is (word_text word meant) (word_line word meant found fits)

-- nor has a line with its address
both_lines : (front rest : List ℕ) → IsLine front → IsLine rest → IsLine (front ++ rest)
both_lines [] rest is is' = is'
both_lines (byte ∷ front) rest is is' = (is.0, both_lines front rest is.1 is')

pub commented_line : (line : List ℕ) (address : ℕ) → IsLine line → IsLine (line ++ codes " # " ++ hexadecimal_text 8 address)
commented_line line address is =
    both_lines (line ++ codes " # ") (hexadecimal_text 8 address) (both_lines line (codes " # ") is (line_is (codes " # ") refl))
    (line_is (hexadecimal_text 8 address) (hexadecimal_in_line 8 address))
