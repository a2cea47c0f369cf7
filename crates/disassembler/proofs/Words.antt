-- The line of each word is the tokens of what it says.
use Rattle.std.proofs.Common.{◌≡◌, ℕ, ◌^◌, ◌<◌, Bool, true, false, cond, pos, List, [], ◌∷◌, length, codes, refl, subst, arith, append-nil, Option, Some, None}
use Rattle.std.proofs.Common.{find}
use Rattle.std.specs.List.{list_all}
use Rattle.rv_insn.specs.Table.{fields_of}
use Rattle.rv_insn.specs.declared.instructions.Insn.{Insn}
use Rattle.assembler_mnemonics.specs.Forms.{form_of, mnemonic}
use Rattle.assembler_mnemonics.specs.Named.{forms, vector_forms, form_among, form_named}
use Rattle.assembler_mnemonics.specs.Slots.{shape, vector_shape, blank, FitsSlots}
use Rattle.assembler_mnemonics.specs.declared.forms.MnemonicForm.{MnemonicForm}
use Rattle.assembler_syntax.specs.declared.tokens.AssemblyToken.TheVariants as t
use Rattle.assembler_syntax.specs.declared.statements.Operand.TheVariants as o
use Rattle.disassembler.specs.Listing.{hexadecimal_text, operands_text, instruction_text, word_text}
use Rattle.disassembler.specs.Reading.{all_shown, operands_tokens, later_tokens, mnemonic_said, operands_said}
use Rattle.disassembler.proofs.Tokens.{Reads, is_word, both_true, nothing_reads, blank_reads, word_reads}
use Rattle.disassembler.proofs.Numerals.{hexadecimal_reads}
use Rattle.disassembler.proofs.Shown.{first_is_written, operands_read, operands_stop}
use Rattle.disassembler.proofs.Slots.{form_reaches}

-- ---- mnemonics are words: a test on the list of all forms

found_passes : (wanted passes : MnemonicForm → Bool) (some : List MnemonicForm) (form : MnemonicForm) → find wanted some ≡ Some form → list_all passes some ≡ true → passes form ≡ true
found_passes wanted passes [] form found all = absurd cc
found_passes wanted passes (first ∷ others) form found all =
    let parts = both_true (passes first) (list_all passes others) all in
    elim (wanted first) as (λ is. cond is (Some first) (find wanted others) ≡ Some form → passes form ≡ true) [
      | true ↦ λ same. let e : first ≡ form = cc in subst (λ x. passes x ≡ true) e parts.0
      | false ↦ λ later. found_passes wanted passes others form later parts.1
    ] found

all_words : list_all (λ form. is_word (mnemonic form)) forms ≡ true
unfolding forms vector_forms
all_words = refl

abbrev pub IsFound : MnemonicForm → Type 0
IsFound form = form_named (mnemonic form) ≡ Some form

pub mnemonic_word : (form : MnemonicForm) → IsFound form → is_word (mnemonic form) ≡ true
unfolding form_among
mnemonic_word form found = found_passes _ (λ form. is_word (mnemonic form)) forms form found all_words

-- ---- the first operand of each form is written

form_first : (form : MnemonicForm) → first_is_written (shape form) ≡ true
unfolding shape vector_shape
form_first form = grind arith

-- ---- lines

instruction_reads : (insn : Insn) → IsFound (form_of insn) → FitsSlots (fields_of insn) (shape (form_of insn))
    → Reads (instruction_text insn) (t.Word (mnemonic (form_of insn)) ∷ operands_tokens (all_shown (shape (form_of insn)) (fields_of insn)))
unfolding instruction_text
instruction_reads insn found fits = let form = form_of insn in
    word_reads (mnemonic form) (operands_text (shape form) (fields_of insn)) (operands_tokens (all_shown (shape form) (fields_of insn)))
    (mnemonic_word form found)
    (operands_stop (shape form) (fields_of insn)) (operands_read (shape form) (fields_of insn) (length (blank form)) (form_first form) (form_reaches form) fits)

last_read : (word : ℕ) → word < 2 ^ 32 → Reads (hexadecimal_text 8 word) (t.Number (pos word) ∷ [])
last_read word small =
    subst (λ bytes. Reads bytes (t.Number (pos word) ∷ [])) (append-nil (hexadecimal_text 8 word))
    (hexadecimal_reads 8 word [] [] (omega arith) small (omega (arith, small)) refl nothing_reads)

number_reads : (word : ℕ) → word < 2 ^ 32 → Reads (word_text word None) (t.Word (codes ".word") ∷ operands_tokens (o.Number (pos word) ∷ []))
unfolding word_text operands_tokens later_tokens
number_reads word small =
    word_reads (codes ".word") (32 ∷ hexadecimal_text 8 word) (t.Number (pos word) ∷ []) refl refl (blank_reads (hexadecimal_text 8 word) (t.Number (pos word)
    ∷ []) (last_read word small))

pub line_reads : (word : ℕ) (meant : Option Insn) → word < 2 ^ 32 → ((form : MnemonicForm) → IsFound form)
    → ((insn : Insn) → meant ≡ Some insn → FitsSlots (fields_of insn) (shape (form_of insn)))
    → Reads (word_text word meant) (t.Word (mnemonic_said meant) ∷ operands_tokens (operands_said word meant))
unfolding word_text
line_reads word None small found fits = number_reads word small
line_reads word (Some insn) small found fits = instruction_reads insn (found (form_of insn)) (fits insn refl)
