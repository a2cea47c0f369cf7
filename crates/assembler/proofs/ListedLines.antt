-- The line of a word gives its item, and moves on by one word of text.
use Rattle.std.proofs.Common.{◌≡◌, ℕ, ◌+◌, ◌^◌, ◌<◌, nat_le, Bool, true, false, cond, not, pos, negsuc, List, [], ◌∷◌, ◌++◌, codes, Option, Some, None, Ok}
use Rattle.std.proofs.Common.{refl, ap, subst, ◌∙◌, arith, find}
use Rattle.std.specs.List.{list_all}
use Rattle.std.specs.Int.{w32, cast_unsigned}
use Rattle.std.specs.Str.{bytes_eq}
use Rattle.std.proofs.lemmas.Bool.{and_parts, le-leb}
use Rattle.std.proofs.lemmas.Int.{ints}
use Rattle.rv_insn.specs.Table.{fields_of}
use Rattle.rv_insn.specs.declared.instructions.Insn.{Insn}
use Rattle.assembler_mnemonics.specs.Forms.{form_of, mnemonic}
use Rattle.assembler_mnemonics.specs.Named.{forms, vector_forms, form_among, form_named}
use Rattle.assembler_mnemonics.specs.Slots.{shape, FitsSlots}
use Rattle.assembler_mnemonics.specs.declared.forms.MnemonicForm.{MnemonicForm}
use Rattle.assembler_syntax.specs.Tokens.{tokens_of}
use Rattle.assembler_syntax.specs.Statements.{statement_of, head_of, only_number}
use Rattle.assembler_syntax.specs.declared.tokens.AssemblyToken.{AssemblyToken}
use Rattle.assembler_syntax.specs.declared.tokens.AssemblyToken.TheVariants as t
use Rattle.assembler_syntax.specs.declared.statements.Operand.{Operand}
use Rattle.assembler_syntax.specs.declared.statements.Operand.TheVariants as o
use Rattle.disassembler.specs.Reading.{mnemonic_said, operands_said, operands_tokens, commanding}
use Rattle.assembler.specs.Judging.{Context, Given, Item, Coded, Raw, performed, these_items, word_number}
use Rattle.assembler.specs.Lines.{line_given, stated, fits}
use Rattle.assembler.specs.Object.{Assembled, taken}
use Rattle.assembler.specs.Places.{operation_named, instruction_named, capped, after}
use Rattle.assembler.specs.declared.operations.LineOperation.{LineOperation}
use Rattle.assembler.specs.declared.operations.LineOperation.TheVariants.{Instruction, Word}
use Rattle.assembler.specs.declared.locations.LineLocation.{LineLocation}
use Rattle.assembler.specs.declared.locations.Section.TheVariants.{Text}
use Rattle.assembler.specs.declared.surveys.Survey.{Survey}
use Rattle.assembler.proofs.ListedOperands.{within}
use Rattle.assembler.proofs.ListedForms.{instruction_back}

-- ---- what mnemonics name: each form's is none of the other names, by a test on the list of all forms

apart_from : List (List ℕ) → List ℕ → Bool
apart_from names name = list_all (λ other. not (bytes_eq name other)) names

other_names : List (List ℕ)
other_names = codes "li" ∷ codes "la" ∷ codes ".text" ∷ codes ".data" ∷ codes ".word" ∷ codes ".space" ∷ codes ".entry" ∷ codes ".output" ∷ []

all_apart : list_all (λ form. apart_from other_names (mnemonic form)) forms ≡ true
unfolding apart_from other_names forms vector_forms
all_apart = refl

found_passes : (wanted passes : MnemonicForm → Bool) (some : List MnemonicForm) (form : MnemonicForm) → find wanted some ≡ Some form → list_all passes some ≡ true → passes form ≡ true
found_passes wanted passes [] form found all = absurd cc
found_passes wanted passes (first ∷ others) form found all =
    let parts = and_parts (passes first) (list_all passes others) all in
    elim (wanted first) as (λ is. cond is (Some first) (find wanted others) ≡ Some form → passes form ≡ true) [
      | true ↦ λ same. let e : first ≡ form = cc in subst (λ x. passes x ≡ true) e parts.0
      | false ↦ λ later. found_passes wanted passes others form later parts.1
    ] found

abbrev pub IsFound : MnemonicForm → Type 0
IsFound form = form_named (mnemonic form) ≡ Some form

mnemonic_apart : (form : MnemonicForm) → IsFound form → apart_from other_names (mnemonic form) ≡ true
unfolding form_among
mnemonic_apart form found = found_passes _ (λ form. apart_from other_names (mnemonic form)) forms form found all_apart

is_false : (test : Bool) → not test ≡ true → test ≡ false
is_false true e = absurd cc
is_false false e = refl

-- a name that is in front of others is another one
another : (name other : List ℕ) (others : List (List ℕ)) → apart_from (other ∷ others) name ≡ true
    → (bytes_eq name other ≡ false) × (apart_from others name ≡ true)
unfolding apart_from
another name other others apart =
    let parts = and_parts (not (bytes_eq name other)) (list_all (λ other. not (bytes_eq name other)) others) apart in
    (is_false (bytes_eq name other) parts.0, parts.1)

named_otherwise : (name : List ℕ) → apart_from other_names name ≡ true → operation_named name ≡ instruction_named (form_named name)
unfolding operation_named other_names
named_otherwise name apart =
    let li = another name _ _ apart in
    let la = another name _ _ li.1 in
    let text = another name _ _ la.1 in
    let bytes = another name _ _ text.1 in
    let word = another name _ _ bytes.1 in
    let space = another name _ _ word.1 in
    let entry = another name _ _ space.1 in
    let output = another name _ _ entry.1 in
    rw (li.0, la.0, text.0, bytes.0, word.0, space.0, entry.0, output.0) refl

operation_said : Option Insn → LineOperation
operation_said None = Word
operation_said (Some insn) = Instruction (form_of insn)

named_said : (meant : Option Insn) → ((form : MnemonicForm) → IsFound form) → operation_named (mnemonic_said meant) ≡ Some (operation_said meant)
unfolding operation_named operation_said
named_said None found = refl
named_said (Some insn) found =
    named_otherwise (mnemonic (form_of insn)) (mnemonic_apart (form_of insn) (found (form_of insn))) ∙ ap instruction_named (found (form_of insn))

-- ---- the place after a line: one word further

abbrev pub text_place : ℕ → LineLocation
text_place count = record { section = Text; words = count; bytes = 0 }

head_said : (name : List ℕ) (operands : List Operand) → head_of (t.Word name ∷ operands_tokens operands) ≡ record {
  label = None;
  mnemonic = Some name;
  number =
      only_number (operands_tokens operands);
}
unfolding head_of operands_tokens
head_said name [] = refl
head_said name (o.Word word ∷ operands) = refl
head_said name (o.Number number ∷ operands) = refl
head_said name (o.Based number base ∷ operands) = refl
head_said name (o.Bracketed base ∷ operands) = refl

one_further : (count : ℕ) → count < 262144 → capped (count + 1) ≡ count + 1
one_further count small = omega (arith, small)

after_said : (count : ℕ) (name : List ℕ) (operands : List Operand) (meant : Option Insn) → count < 262144 → operation_named name ≡ Some (operation_said meant)
    → after (text_place count) (head_of (t.Word name ∷ operands_tokens operands)) ≡ text_place (count + 1)
unfolding after operation_said
after_said count name operands None small named = rw (head_said name operands, named) (ap text_place (one_further count small))
after_said count name operands (Some insn) small named = rw (head_said name operands, named) (ap text_place (one_further count small))

within_limits : (count : ℕ) → count < 262144 → fits (text_place (count + 1)) ≡ true
within_limits count small =
    let inside : nat_le (count + 1) 262144 ≡ true = le-leb (count + 1) 262144 (omega (arith, small)) in
    rw inside refl

-- ---- what a line gives

abbrev pub item_said : ℕ → Option Insn → Item
item_said word None = Raw word
item_said word (Some insn) = Coded (form_of insn) (fields_of insn)

abbrev pub Fit : Option Insn → Type 0
Fit meant = (insn : Insn) → meant ≡ Some insn → FitsSlots (fields_of insn) (shape (form_of insn))

abbrev pub at_word : Survey → ℕ → ℕ → Context
at_word survey line count = record { survey = survey; here = record { line = line; place = text_place count } }

number_kept : (word : ℕ) → word < 2 ^ 32 → word_number (pos word) ≡ Ok word
number_kept word small =
    let inside = within (negsuc 2147483647) (pos 4294967295) (pos word) (omega (arith, ints)) (omega (arith, ints, small)) in
    let same : cast_unsigned w32 (pos word) ≡ word = omega (arith, small) in
    rw (inside, same) refl

performed_said : (survey : Survey) (line count word : ℕ) (meant : Option Insn) → word < 2 ^ 32 → Fit meant
    → performed (at_word survey line count) (Some (operation_said meant)) (operands_said word meant) ≡ Ok (these_items (item_said word meant ∷ []))
unfolding performed operation_said
performed_said survey line count word None small fit = rw (number_kept word small) refl
performed_said survey line count word (Some insn) small fit = instruction_back (at_word survey line count) insn (fit insn refl)

-- a command with no label, whose operands are faultless, within the machine's limits
command_given : (c : Context) (line name : List ℕ) (operands : List Operand) (operation : LineOperation) (given : Given)
    → statement_of (tokens_of line) ≡ Some (commanding name operands)
    → operation_named name ≡ Some operation → performed c (Some operation) operands ≡ Ok given → fits (after c.here.place (head_of (tokens_of line))) ≡ true
    → line_given c line ≡ Ok given
unfolding line_given stated
command_given c line name operands operation given said named performs fit = rw (said, named, performs, fit) refl

-- ---- one more line

abbrev pub so_far : ℕ → ℕ → List Item → Assembled
so_far line count items = record { here = record { line = line; place = text_place count }; items = items; bytes = []; entry = None; output = None }

pub word_taken : (survey : Survey) (line count : ℕ) (items : List Item) (text : List ℕ) (word : ℕ) (meant : Option Insn) → count < 262144 → word < 2 ^ 32
    → ((form : MnemonicForm) → IsFound form) → Fit meant
    → tokens_of text ≡ t.Word (mnemonic_said meant) ∷ operands_tokens (operands_said word meant)
    → statement_of (tokens_of text) ≡ Some (commanding (mnemonic_said meant) (operands_said word meant))
    → taken survey (so_far line count items) text ≡ Ok (so_far (line + 1) (count + 1) (items ++ item_said word meant ∷ []))
unfolding taken
word_taken survey line count items text word meant room small found fit tokens said =
    let named = named_said meant found in
    let behind : after (text_place count) (head_of (tokens_of text)) ≡ text_place (count + 1) =
    ap (λ (ts : List AssemblyToken). after (text_place count) (head_of ts)) tokens ∙ after_said count (mnemonic_said meant) (operands_said word meant) meant room named
    in
    let limits : fits (after (text_place count) (head_of (tokens_of text))) ≡ true = ap fits behind ∙ within_limits count room in
    let given = command_given (at_word survey line count) text (mnemonic_said meant) (operands_said word meant) (operation_said meant)
    (these_items (item_said word meant ∷ [])) said named
    (performed_said survey line count word meant small fit) limits in
    rw (given, behind) refl
