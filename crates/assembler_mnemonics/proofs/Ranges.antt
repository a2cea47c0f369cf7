-- The fields of an instruction that a word means fit the slots of its form.
use Rattle.std.proofs.Common.{◌≡◌, ℕ, zero, suc, ◌-◌, ◌*◌, ◌^◌, ◌<◌, ◌≤◌, ℤ, pos, negsuc, ◌≤ℤ◌, ◌-ℤ◌, List, [], ◌∷◌, length, map, slice_index_or, refl, sym}
use Rattle.std.proofs.Common.{◌∙◌, ap, subst, arith, lit<, pow-suc, Option, Some, None, Bool, true, false, cond, not, ◌&&◌, ◌||◌, nat_lt, nat_le}
use Rattle.std.specs.Prelude.{slice_get}
use Rattle.std.specs.Option.{option_map}
use Rattle.std.specs.Int.{bit_at}
use Rattle.std.specs.List.{list_all}
use Rattle.std.specs.Str.{bytes_eq}
use Rattle.std.proofs.lemmas.Int.{ints}
use Rattle.std.proofs.lemmas.Bool.{leb-true}
use Rattle.std.proofs.lemmas.Bool.Decides.{nat_tests}
use Rattle.std.proofs.lemmas.Option.{slice_get-map, get_or_from_slice_get}
use Rattle.std.proofs.lemmas.Slice.Eq.{bytes_eq-Decides}
use Rattle.rv_insn.specs.Encoding.{number_at, Field, field_of, Row, span}
use Rattle.rv_insn.specs.Encoding.Field.{Unsigned, Signed}
use Rattle.rv_insn.specs.Table.{table, scalar_table, r_type, i_type, s_type, b_type, u_type, j_type, amo_type, whole_word, fields_of, Means}
use Rattle.rv_insn.specs.VectorTable.{vector_table}
use Rattle.rv_insn.specs.declared.instructions.Insn.{Insn}
use Rattle.rv_insn.specs.declared.instructions.Insn.TheVariants.{Lui, Auipc, Jal, Jalr, Branch, Load, Store, AluImm, Shift, Alu, AmoaddW, Fence, Ecall, Ebreak}
use Rattle.rv_insn.specs.declared.instructions.Insn.TheVariants.{Vector}
use Rattle.assembler_mnemonics.specs.declared.slots.Slot.{Slot}
use Rattle.assembler_mnemonics.specs.declared.slots.Slot.TheVariants as s
use Rattle.assembler_mnemonics.specs.declared.forms.MnemonicForm.{MnemonicForm}
use Rattle.assembler_mnemonics.specs.Forms.{form_of, row_name}
use Rattle.assembler_mnemonics.specs.Slots.{shape, vector_shape, blank, vector_blank, field_at, IsWithin, FitsSlot, FitsSlots, Keeps}
use Rattle.assembler_mnemonics.proofs.Named.{both_true}
use Rattle.assembler_mnemonics.proofs.Instructions.{names_agree}

-- ---- the range of a field

bit_below : (word place : ℕ) → bit_at word place < 2
bit_below word place = omega arith

number_below : (word : ℕ) (places : List ℕ) → number_at word places < 2 ^ length places
unfolding number_at
number_below word [] = lit< tt
number_below word (place ∷ places) =
    let rest = number_below word places in
    let doubled : 2 ^ suc (length places) ≡ 2 ^ length places * 2 = pow-suc 2 (length places) in
    omega (arith, rest, doubled, bit_below word place)

half_positive : (n : ℕ) → 0 < 2 ^ n
half_positive zero = lit< tt
half_positive (suc n) = let doubled : 2 ^ suc n ≡ 2 ^ n * 2 = pow-suc 2 n in omega (arith, doubled, half_positive n)

two_halves : (n : ℕ) → 2 ^ n ≤ 2 * 2 ^ (n - 1)
two_halves zero = omega arith
two_halves (suc n) =
    let before : suc n - 1 ≡ n = omega arith in
    let doubled : 2 ^ suc n ≡ 2 ^ n * 2 = pow-suc 2 n in
    rw before (omega (arith, doubled))

signed_by : (half whole n : ℕ) (low : Bool) → nat_lt n half ≡ low → whole ≤ 2 * half → 0 < half → n < whole
    → ((pos 0 -ℤ pos half) ≤ℤ cond low (pos n) (pos n -ℤ pos whole)) × (cond low (pos n) (pos n -ℤ pos whole) ≤ℤ pos (half - 1))
signed_by half whole n true is h p small = let below : n < half = grind (arith, nat_tests) in (omega (arith, ints), omega (arith, ints))
signed_by half whole n false is h p small = let above : half ≤ n = grind (arith, nat_tests) in (omega (arith, ints), omega (arith, ints))

least_of : Field → ℤ
least_of (Unsigned places) = pos 0
least_of (Signed places) = pos 0 -ℤ pos (2 ^ (length places - 1))

greatest_of : Field → ℤ
greatest_of (Unsigned places) = pos (2 ^ length places - 1)
greatest_of (Signed places) = pos (2 ^ (length places - 1) - 1)

in_range : (word : ℕ) (field : Field) → (least_of field ≤ℤ field_of word field) × (field_of word field ≤ℤ greatest_of field)
unfolding least_of greatest_of
in_range word (Unsigned places) = let small = number_below word places in (omega (arith, ints), omega (arith, ints))
in_range word (Signed places) =
    signed_by (2 ^ (length places - 1)) (2 ^ length places) (number_at word places) (nat_lt (number_at word places) (2 ^ (length places - 1))) refl
    (two_halves (length places)) (half_positive (length places - 1)) (number_below word places)

-- ---- slots against the fields of a row

at_most : ℤ → ℤ → Bool
at_most (pos a) (pos b) = nat_le a b
at_most (negsuc a) (pos b) = true
at_most (negsuc a) (negsuc b) = nat_le b a
at_most (pos a) (negsuc b) = false

at_most-true : (a b : ℤ) → at_most a b ≡ true → a ≤ℤ b
unfolding at_most
at_most-true (pos a) (pos b) e = let below = leb-true a b e in omega (arith, ints)
at_most-true (negsuc a) (pos b) e = omega (arith, ints)
at_most-true (negsuc a) (negsuc b) e = let below = leb-true b a e in omega (arith, ints)
at_most-true (pos a) (negsuc b) e = absurd cc

covers : Option Field → ℤ → ℤ → Bool
covers None least greatest = false
covers (Some field) least greatest = at_most least (least_of field) && at_most (greatest_of field) greatest

covered : (word : ℕ) (fields : List Field) (k : ℕ) (least greatest : ℤ) (field : Option Field) → slice_get fields k ≡ field → covers field least greatest ≡ true
    → IsWithin (map (field_of word) fields) k least greatest
unfolding covers
covered word fields k least greatest None is e = absurd cc
covered word fields k least greatest (Some field) is e =
    let both = both_true _ _ e in
    let low = at_most-true least (least_of field) both.0 in
    let high = at_most-true (greatest_of field) greatest both.1 in
    let range = in_range word field in
    let there : slice_get (map (field_of word) fields) k ≡ Some (field_of word field) = slice_get-map (field_of word) fields k
    ∙ ap (option_map (field_of word)) is in
    let same : field_at (map (field_of word) fields) k ≡ field_of word field = get_or_from_slice_get (map (field_of word) fields) k (field_of word field)
    (pos 0) there in
    (subst (λ n. least ≤ℤ n) (sym same) (omega (arith, ints)), subst (λ n. n ≤ℤ greatest) (sym same) (omega (arith, ints)))

fits_row : List Field → Slot → Bool
fits_row fields (s.Integer field) = covers (slice_get fields field) (pos 0) (pos 31)
fits_row fields (s.Vector field) = covers (slice_get fields field) (pos 0) (pos 31)
fits_row fields s.MaskRegister = true
fits_row fields (s.Number field least greatest) = covers (slice_get fields field) least greatest
fits_row fields (s.Upper field) = covers (slice_get fields field) (pos 0) (pos 1048575)
fits_row fields (s.Based offset base) = covers (slice_get fields offset) (negsuc 2047) (pos 2047) && covers (slice_get fields base) (pos 0) (pos 31)
fits_row fields (s.Address base) = covers (slice_get fields base) (pos 0) (pos 31)
fits_row fields (s.Target field reach) = covers (slice_get fields field) (pos 0 -ℤ reach) (reach -ℤ pos 1)
fits_row fields (s.Configuration field greatest) = covers (slice_get fields field) (pos 0) greatest
fits_row fields (s.Mask field) = covers (slice_get fields field) (pos 0) (pos 1)

slot_fits_row : (word : ℕ) (fields : List Field) (slot : Slot) → fits_row fields slot ≡ true → FitsSlot (map (field_of word) fields) slot
unfolding fits_row
slot_fits_row word fields (s.Integer field) e = covered word fields field _ _ _ refl e
slot_fits_row word fields (s.Vector field) e = covered word fields field _ _ _ refl e
slot_fits_row word fields s.MaskRegister e = tt
slot_fits_row word fields (s.Number field least greatest) e = covered word fields field _ _ _ refl e
slot_fits_row word fields (s.Upper field) e = covered word fields field _ _ _ refl e
slot_fits_row word fields (s.Based offset base) e =
    (covered word fields offset _ _ _ refl (both_true _ _ e).0, covered word fields base _ _ _ refl (both_true _ _ e).1)
slot_fits_row word fields (s.Address base) e = covered word fields base _ _ _ refl e
slot_fits_row word fields (s.Target field reach) e = covered word fields field _ _ _ refl e
slot_fits_row word fields (s.Configuration field greatest) e = covered word fields field _ _ _ refl e
slot_fits_row word fields (s.Mask field) e = covered word fields field _ _ _ refl e

slots_fit_row : (word : ℕ) (fields : List Field) (slots : List Slot) → list_all (fits_row fields) slots ≡ true → FitsSlots (map (field_of word) fields) slots
slots_fit_row word fields [] e = tt
slots_fit_row word fields (slot ∷ slots) e =
    (slot_fits_row word fields slot (both_true _ _ e).0, slots_fit_row word fields slots (both_true _ _ e).1)

-- ---- the forms against the table

-- a row of the form's name has fields that fit the form's slots
fits : MnemonicForm → Row → Bool
fits form row = not (bytes_eq (row_name form) row.name) || list_all (fits_row row.fields) (shape form)

fits_table : MnemonicForm → Bool
fits_table form = list_all (fits form) table

form_fits : (form : MnemonicForm) → fits_table form ≡ true
unfolding fits_table fits fits_row covers at_most least_of greatest_of shape vector_shape table scalar_table vector_table r_type i_type s_type b_type u_type
    j_type amo_type whole_word span
form_fits form = grind arith steps 60000000

contained_passes : {X : Type 0} (test : X → Bool) (xs : List X) (x : X) (k : ℕ) → list_all test xs ≡ true → k < length xs → slice_index_or xs k x ≡ x
    → test x ≡ true
contained_passes test [] x k h within e = absurd (omega arith)
contained_passes test (y ∷ ys) x zero h within e = subst (λ z. test z ≡ true) e (both_true _ _ h).0
contained_passes test (y ∷ ys) x (suc k) h within e = contained_passes test ys x k (both_true _ _ h).1 (omega arith) e

passes_other : (a b : Bool) → (not a || b) ≡ true → a ≡ true → b ≡ true
passes_other true b h e = h
passes_other false b h e = absurd cc

row_fits : (form : MnemonicForm) (row : Row) (k : ℕ) → k < length table → slice_index_or table k row ≡ row → row_name form ≡ row.name
    → list_all (fits_row row.fields) (shape form) ≡ true
unfolding fits_table fits
row_fits form row k within here named =
    let all = form_fits form in
    let both = contained_passes (fits form) table row k all within here in
    passes_other _ _ both ((bytes_eq-Decides (row_name form) row.name).1 named)

pub meant_fits : (word : ℕ) (insn : Insn) → Means word insn → FitsSlots (fields_of insn) (shape (form_of insn))
meant_fits word insn h =
    let passed = row_fits (form_of insn) h.0 h.1.0 h.1.1 h.1.2 (sym (names_agree insn) ∙ h.3) in
    subst (λ fields. FitsSlots fields (shape (form_of insn))) (sym h.4) (slots_fit_row word h.0.fields (shape (form_of insn)) passed)

-- ---- counts, and the fields that no operand gives

pub fields_count : (insn : Insn) → length (fields_of insn) ≡ length (blank (form_of insn))
unfolding blank vector_blank
fields_count insn = grind arith

pub fields_kept : (insn : Insn) → Keeps (form_of insn) (fields_of insn)
fields_kept (Lui rd imm) = tt
fields_kept (Auipc rd imm) = tt
fields_kept (Jal rd offset) = tt
fields_kept (Jalr rd rs1 imm) = tt
fields_kept (Branch op rs1 rs2 offset) = tt
fields_kept (Load op rd rs1 imm) = tt
fields_kept (Store op rs1 rs2 imm) = tt
fields_kept (AluImm op rd rs1 imm) = tt
fields_kept (Shift op rd rs1 amount) = tt
fields_kept (Alu op rd rs1 rs2) = tt
fields_kept (AmoaddW rd rs1 rs2 aq rl) = (refl, refl)
fields_kept Fence = tt
fields_kept Ecall = tt
fields_kept Ebreak = tt
fields_kept (Vector insn) = tt
