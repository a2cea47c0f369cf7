-- The operands of slots as a listing has them are the tokens of what the slots show.
use Rattle.std.proofs.Common.{◌≡◌, ℕ, zero, suc, ◌^◌, ◌<◌, ◌&&◌, nat_lt, Bool, true, false, if◌then◌else◌, ℤ, pos, negsuc, ◌*ℤ◌, ◌≤ℤ◌, unsigned_abs, List, []}
use Rattle.std.proofs.Common.{◌∷◌, ◌++◌, refl, sym, ap, subst, arith, append_assoc, codes}
use Rattle.std.specs.Fmt.{signed_decimal}
use Rattle.std.proofs.lemmas.Bool.{ltb-true}
use Rattle.std.proofs.lemmas.Int.{ints}
use Rattle.assembler_mnemonics.specs.Slots.{field_at, FitsSlot, FitsSlots}
use Rattle.assembler_mnemonics.specs.Registers.{integer_letter, vector_letter}
use Rattle.assembler_mnemonics.specs.Configuration.{width_names, group_names, tail_names, mask_names, width_code, group_code, tail_code, mask_code, has_names}
use Rattle.assembler_mnemonics.specs.Configuration.{name_at}
use Rattle.assembler_mnemonics.specs.declared.slots.Slot.{Slot}
use Rattle.assembler_mnemonics.specs.declared.slots.Slot.TheVariants.{Integer, Vector, MaskRegister, Number, Upper, Based, Address, Target, Configuration, Mask}
use Rattle.assembler_syntax.specs.declared.tokens.AssemblyToken.{AssemblyToken}
use Rattle.assembler_syntax.specs.declared.tokens.AssemblyToken.TheVariants as t
use Rattle.assembler_syntax.specs.declared.statements.Operand.{Operand}
use Rattle.assembler_syntax.specs.Tokens.{span}
use Rattle.disassembler.specs.Listing.{register_in, bracketed, names_text, vtype_text, operand_text, is_written, later_text, operands_text}
use Rattle.disassembler.specs.Reaching.{Reaches, AllReach}
use Rattle.disassembler.specs.Reading.{vtype_shown, shown, all_shown, later_tokens, operands_tokens}
use Rattle.disassembler.proofs.Tokens.{Reads, is_word, both_true, nothing_reads, blank_reads, comma_reads, open_reads, close_reads, word_reads}
use Rattle.disassembler.proofs.Numerals.{signed_reads, hexadecimal_reads, natural_reads, register_word}
use Rattle.disassembler.proofs.Statements.{first_append}

-- the same bytes in other brackets
moved : (written grouped : List ℕ) (tokens : List AssemblyToken) → written ≡ grouped → Reads grouped tokens → Reads written tokens
moved written grouped tokens same reads = subst (λ bytes. Reads bytes tokens) (sym same) reads

-- ---- brackets

bracket_reads : (word rest : List ℕ) (tokens : List AssemblyToken) → is_word word ≡ true → Reads rest tokens
    → Reads (bracketed word ++ rest) (t.Open ∷ t.Word word ∷ t.Close ∷ tokens)
bracket_reads word rest tokens is reads =
    moved (bracketed word ++ rest) (40 ∷ (word ++ 41 ∷ rest)) (t.Open ∷ t.Word word ∷ t.Close ∷ tokens)
    (ap (λ bytes. 40 ∷ bytes) (append_assoc word (41 ∷ []) rest))
    (open_reads (word ++ 41 ∷ rest) (t.Word word ∷ t.Close ∷ tokens) (word_reads word (41 ∷ rest) (t.Close ∷ tokens) is refl (close_reads rest tokens reads)))

-- ---- a vtype

width_word : (code : ℕ) → code < 3 → is_word (name_at width_names code) ≡ true
width_word zero small = refl
width_word (suc zero) small = refl
width_word (suc (suc zero)) small = refl
width_word (suc (suc (suc code))) small = absurd (omega (arith, small))

group_word : (code : ℕ) → code < 3 → is_word (name_at group_names code) ≡ true
group_word zero small = refl
group_word (suc zero) small = refl
group_word (suc (suc zero)) small = refl
group_word (suc (suc (suc code))) small = absurd (omega (arith, small))

tail_word : (code : ℕ) → code < 2 → is_word (name_at tail_names code) ≡ true
tail_word zero small = refl
tail_word (suc zero) small = refl
tail_word (suc (suc code)) small = absurd (omega (arith, small))

mask_word : (code : ℕ) → code < 2 → is_word (name_at mask_names code) ≡ true
mask_word zero small = refl
mask_word (suc zero) small = refl
mask_word (suc (suc code)) small = absurd (omega (arith, small))

-- four words with commas between them
four_reads : (a b c d rest : List ℕ) (tokens : List AssemblyToken) → is_word a ≡ true → is_word b ≡ true → is_word c ≡ true → is_word d ≡ true → span rest ≡ 0
    → Reads rest tokens
    → Reads ((a ++ 44 ∷ b ++ 44 ∷ c ++ 44 ∷ d) ++ rest) (t.Word a ∷ t.Comma ∷ t.Word b ∷ t.Comma ∷ t.Word c ∷ t.Comma ∷ t.Word d ∷ tokens)
four_reads a b c d rest tokens first second third fourth stops reads =
    let same : (a ++ 44 ∷ b ++ 44 ∷ c ++ 44 ∷ d) ++ rest ≡ a ++ 44 ∷ (b ++ 44 ∷ (c ++ 44 ∷ (d ++ rest))) = simp append_assoc in
    moved _ _ _ same
    (word_reads a _ _ first refl (comma_reads _ _
    (word_reads b _ _ second refl (comma_reads _ _
    (word_reads c _ _ third refl (comma_reads _ _
    (word_reads d rest tokens fourth stops reads)))))))

-- the names of a vtype that has names
pub names_are_words : (vtype : ℕ) → has_names vtype ≡ true
    → (is_word (name_at width_names (width_code vtype)) ≡ true) × (is_word (name_at group_names (group_code vtype)) ≡ true)
    × (is_word (name_at tail_names (tail_code vtype)) ≡ true) × (is_word (name_at mask_names (mask_code vtype)) ≡ true)
names_are_words vtype named =
    let whole = both_true (nat_lt vtype 256 && nat_lt (group_code vtype) 3) (nat_lt (width_code vtype) 3) named in
    let front = both_true (nat_lt vtype 256) (nat_lt (group_code vtype) 3) whole.0 in (
      width_word (width_code vtype) (ltb-true (width_code vtype) 3 whole.1),
      group_word (group_code vtype) (ltb-true (group_code vtype) 3 front.1),
      tail_word (tail_code vtype) (omega arith),
      mask_word (mask_code vtype) (omega arith),
    )

names_read : (vtype : ℕ) (rest : List ℕ) (tokens : List AssemblyToken) → has_names vtype ≡ true → span rest ≡ 0 → Reads rest tokens
    → Reads (vtype_text vtype ++ rest) (operands_tokens (vtype_shown vtype) ++ tokens)
unfolding vtype_text names_text vtype_shown operands_tokens later_tokens
names_read vtype rest tokens named stops reads = let words = names_are_words vtype named in
    rw named (four_reads (name_at width_names (width_code vtype)) (name_at group_names (group_code vtype)) (name_at tail_names (tail_code vtype))
    (name_at mask_names (mask_code vtype))
    rest tokens words.0 words.1 words.2 words.3 stops reads)

digits_read : (vtype : ℕ) (rest : List ℕ) (tokens : List AssemblyToken) → has_names vtype ≡ false → vtype < 4096 → span rest ≡ 0 → Reads rest tokens
    → Reads (vtype_text vtype ++ rest) (operands_tokens (vtype_shown vtype) ++ tokens)
unfolding vtype_text vtype_shown operands_tokens later_tokens
digits_read vtype rest tokens unnamed small stops reads =
    rw unnamed (hexadecimal_reads 3 vtype rest tokens (omega arith) small (omega (arith, small)) stops reads)

vtype_reads : (vtype : ℕ) (rest : List ℕ) (tokens : List AssemblyToken) → vtype < 4096 → span rest ≡ 0 → Reads rest tokens
    → Reads (vtype_text vtype ++ rest) (operands_tokens (vtype_shown vtype) ++ tokens)
vtype_reads vtype rest tokens small stops reads = elim (has_names vtype) as (λ named. has_names vtype ≡ named
    → Reads (vtype_text vtype ++ rest) (operands_tokens (vtype_shown vtype) ++ tokens)) [
      | true ↦ λ e. names_read vtype rest tokens e stops reads
      | false ↦ λ e. digits_read vtype rest tokens e small stops reads
    ] refl

configuration_small : (vtype greatest : ℤ) → pos 0 ≤ℤ vtype → vtype ≤ℤ greatest → greatest ≤ℤ pos 4095 → unsigned_abs vtype < 4096
configuration_small (pos n) (pos m) least most bound = omega (arith, ints, most, bound)
configuration_small (pos n) (negsuc m) least most bound = absurd (omega (arith, ints, most))
configuration_small (negsuc n) greatest least most bound = absurd (omega (arith, ints, least))

upper_small : (number : ℤ) → pos 0 ≤ℤ number → number ≤ℤ pos 1048575 → unsigned_abs number < 16 ^ 5
upper_small (pos n) least most = omega (arith, ints, most)
upper_small (negsuc n) least most = absurd (omega (arith, ints, least))

-- ---- a slot whose operand is written

pub slot_reads : (slot : Slot) (fields : List ℤ) (count : ℕ) (rest : List ℕ) (tokens : List AssemblyToken) → is_written slot fields ≡ true → Reaches count slot
    → FitsSlot fields slot → span rest ≡ 0 → Reads rest tokens
    → Reads (operand_text slot fields ++ rest) (operands_tokens (shown slot fields) ++ tokens)
unfolding operand_text shown operands_tokens later_tokens
slot_reads (Integer field) fields count rest tokens written reach fits stops reads =
    word_reads (register_in integer_letter fields field) rest tokens (register_word integer_letter (field_at fields field) refl fits.0 fits.1) stops reads
slot_reads (Vector field) fields count rest tokens written reach fits stops reads =
    word_reads (register_in vector_letter fields field) rest tokens (register_word vector_letter (field_at fields field) refl fits.0 fits.1) stops reads
slot_reads MaskRegister fields count rest tokens written reach fits stops reads = word_reads (codes "v0") rest tokens refl stops reads
slot_reads (Number field least greatest) fields count rest tokens written reach fits stops reads =
    signed_reads (field_at fields field) rest tokens (omega (arith, ints, fits.0, reach.1)) (omega (arith, ints, fits.1, reach.2)) stops reads
slot_reads (Upper field) fields count rest tokens written reach fits stops reads =
    let small = upper_small (field_at fields field) fits.0 fits.1 in
    natural_reads 5 (field_at fields field) rest tokens (omega arith) fits.0 small (omega (arith, small)) stops reads
slot_reads (Based offset base) fields count rest tokens written reach fits stops reads =
    let word = register_in integer_letter fields base in
    let is : is_word word ≡ true = register_word integer_letter (field_at fields base) refl fits.1.0 fits.1.1 in
    moved _ _ _ (append_assoc (signed_decimal (field_at fields offset)) (bracketed word) rest)
    (signed_reads (field_at fields offset) (bracketed word ++ rest) _ (omega (arith, ints, fits.0.0)) (omega (arith, ints, fits.0.1)) refl
    (bracket_reads word rest tokens is reads))
slot_reads (Address base) fields count rest tokens written reach fits stops reads =
    bracket_reads (register_in integer_letter fields base) rest tokens (register_word integer_letter (field_at fields base) refl fits.0 fits.1) reads
slot_reads (Target field reach') fields count rest tokens written reach fits stops reads =
    signed_reads (field_at fields field *ℤ pos 2) rest tokens (omega (arith, ints, fits.0, fits.1, reach.1)) (omega (arith, ints, fits.0, fits.1, reach.1))
    stops reads
slot_reads (Configuration field greatest) fields count rest tokens written reach fits stops reads =
    vtype_reads (unsigned_abs (field_at fields field)) rest tokens (configuration_small (field_at fields field) greatest fits.0 fits.1 reach.1) stops reads
slot_reads (Mask field) fields count rest tokens written reach fits stops reads = rw written (word_reads (codes "v0.t") rest tokens refl stops reads)

-- ---- what a slot shows is something exactly where its operand is written

abbrev Some_shown : Slot → List ℤ → Type 0
Some_shown slot fields = (operand : Operand) × (others : List Operand) × (shown slot fields ≡ operand ∷ others)

chosen_some : (test : Bool) (a b : Operand) (more rest : List Operand) → (operand : Operand) × (others : List Operand) × ((if test then a ∷ more else b ∷ rest)
    ≡ operand ∷ others)
chosen_some true a b more rest = (a, more, refl)
chosen_some false a b more rest = (b, rest, refl)

some_names : (vtype : ℕ) → (operand : Operand) × (others : List Operand) × (vtype_shown vtype ≡ operand ∷ others)
unfolding vtype_shown
some_names vtype = chosen_some (has_names vtype) _ _ _ _

written_shows : (slot : Slot) (fields : List ℤ) → is_written slot fields ≡ true → Some_shown slot fields
unfolding shown
written_shows (Integer field) fields written = (_, _, refl)
written_shows (Vector field) fields written = (_, _, refl)
written_shows MaskRegister fields written = (_, _, refl)
written_shows (Number field least greatest) fields written = (_, _, refl)
written_shows (Upper field) fields written = (_, _, refl)
written_shows (Based offset base) fields written = (_, _, refl)
written_shows (Address base) fields written = (_, _, refl)
written_shows (Target field reach) fields written = (_, _, refl)
written_shows (Configuration field greatest) fields written = some_names (unsigned_abs (field_at fields field))
written_shows (Mask field) fields written = rw written (_, _, refl)

unwritten_shows : (slot : Slot) (fields : List ℤ) → is_written slot fields ≡ false → shown slot fields ≡ []
unfolding shown
unwritten_shows (Mask field) fields written = rw written refl
unwritten_shows slot fields written = absurd cc

-- ---- later operands

later_of : (slot : Slot) (fields : List ℤ) (others : List Operand) → is_written slot fields ≡ true
    → later_tokens (shown slot fields ++ others) ≡ t.Comma ∷ (operands_tokens (shown slot fields) ++ later_tokens others)
unfolding later_tokens operands_tokens
later_of slot fields others written = let some = written_shows slot fields written in
    rw some.2 (ap (λ tokens. t.Comma ∷ tokens) (first_append some.0 some.1 others))

later_stops : (slots : List Slot) (fields : List ℤ) → span (later_text slots fields) ≡ 0
unfolding later_text
later_stops [] fields = refl
later_stops (slot ∷ slots) fields = elim (is_written slot fields) as (λ written. span ((if written then 44 ∷ operand_text slot fields else [])
    ++ later_text slots fields) ≡ 0) [
      | true ↦ refl
      | false ↦ later_stops slots fields
    ]

later_written : (slot : Slot) (slots : List Slot) (fields : List ℤ) → is_written slot fields ≡ true → later_text (slot ∷ slots) fields ≡ 44
    ∷ (operand_text slot fields ++ later_text slots fields)
unfolding later_text
later_written slot slots fields written = rw written refl

later_unwritten : (slot : Slot) (slots : List Slot) (fields : List ℤ) → is_written slot fields ≡ false
    → later_text (slot ∷ slots) fields ≡ later_text slots fields
unfolding later_text
later_unwritten slot slots fields written = rw written refl

later_reads : (slots : List Slot) (fields : List ℤ) (count : ℕ) → AllReach count slots → FitsSlots fields slots
    → Reads (later_text slots fields) (later_tokens (all_shown slots fields))
unfolding later_text later_tokens all_shown
later_reads [] fields count reach fits = nothing_reads
later_reads (slot ∷ slots) fields count reach fits = elim (is_written slot fields) as (λ written. is_written slot fields ≡ written
    → Reads (later_text (slot ∷ slots) fields) (later_tokens (all_shown (slot ∷ slots) fields))) [
      | true ↦ λ e. rw (later_written slot slots fields e, later_of slot fields (all_shown slots fields) e)
          (comma_reads _ _ (slot_reads slot fields count (later_text slots fields) (later_tokens (all_shown slots fields)) e reach.0 fits.0
          (later_stops slots fields)
          (later_reads slots fields count reach.1 fits.1)))
      | false ↦ λ e. rw (later_unwritten slot slots fields e, unwritten_shows slot fields e) (later_reads slots fields count reach.1 fits.1)
    ] refl

-- ---- all operands; the first is always written

abbrev pub first_is_written : List Slot → Bool
first_is_written [] = true
first_is_written (Mask field ∷ slots) = false
first_is_written (slot ∷ slots) = true

plain_written : (slot : Slot) (slots : List Slot) (fields : List ℤ) → first_is_written (slot ∷ slots) ≡ true → is_written slot fields ≡ true
plain_written (Mask field) slots fields first = absurd cc
plain_written slot slots fields first = refl

first_of : (slot : Slot) (fields : List ℤ) (others : List Operand) → is_written slot fields ≡ true
    → operands_tokens (shown slot fields ++ others) ≡ operands_tokens (shown slot fields) ++ later_tokens others
first_of slot fields others written = let some = written_shows slot fields written in
    rw some.2 (first_append some.0 some.1 others)

pub operands_read : (slots : List Slot) (fields : List ℤ) (count : ℕ) → first_is_written slots ≡ true → AllReach count slots → FitsSlots fields slots
    → Reads (operands_text slots fields) (operands_tokens (all_shown slots fields))
unfolding operands_text operands_tokens all_shown
operands_read [] fields count first reach fits = nothing_reads
operands_read (slot ∷ slots) fields count first reach fits =
    let written = plain_written slot slots fields first in
    rw (first_of slot fields (all_shown slots fields) written)
    (blank_reads _ _ (slot_reads slot fields count (later_text slots fields) (later_tokens (all_shown slots fields)) written reach.0 fits.0
    (later_stops slots fields)
    (later_reads slots fields count reach.1 fits.1)))

pub operands_stop : (slots : List Slot) (fields : List ℤ) → span (operands_text slots fields) ≡ 0
unfolding operands_text
operands_stop [] fields = refl
operands_stop (slot ∷ slots) fields = refl
