-- What a slot shows gives its fields the numbers that they have.
use Rattle.std.proofs.Common.{◌≡◌, ℕ, suc, ◌+◌, ◌*◌, ◌<◌, ◌==◌, ◌&&◌, ℤ, pos, negsuc, neg_ℤ, ◌-ℤ◌, ◌*ℤ◌, ◌≤ℤ◌, unsigned_abs, Bool, true, false, if◌then◌else◌}
use Rattle.std.proofs.Common.{T, List, [], ◌∷◌, ◌++◌, codes, None, Some, Ok, refl, ap, ◌∙◌, arith}
use Rattle.std.specs.Fmt.{decimal, signed_decimal}
use Rattle.std.specs.Int.{int_rem_euclid, int_shr}
use Rattle.std.specs.Int.Signed.{le_z}
use Rattle.std.proofs.lemmas.Bool.{and_parts}
use Rattle.std.proofs.lemmas.Int.{ints}
use Rattle.assembler_mnemonics.specs.Configuration.{width_names, group_names, tail_names, mask_names, width_code, group_code, tail_code, mask_code, has_names}
use Rattle.assembler_mnemonics.specs.Configuration.{vtype_named, name_at}
use Rattle.assembler_mnemonics.specs.Registers.{integer_letter, vector_letter, register_number}
use Rattle.assembler_mnemonics.specs.Slots.{field_at, FitsSlot, FitsSlots}
use Rattle.assembler_mnemonics.specs.declared.slots.Slot.{Slot}
use Rattle.assembler_mnemonics.specs.declared.slots.Slot.TheVariants as s
use Rattle.assembler_mnemonics.proofs.Written.{register_read_back, vtype_read_back}
use Rattle.assembler_syntax.specs.declared.statements.Operand.{Operand}
use Rattle.assembler_syntax.specs.declared.statements.Operand.TheVariants as o
use Rattle.disassembler.specs.Listing.{register_in}
use Rattle.disassembler.specs.Reading.{vtype_shown, shown, all_shown}
use Rattle.assembler.specs.Judging.{Context, number_within, register_of, halves_of, given, named_at, given_all}
use Rattle.assembler.specs.declared.faults.AsmFault.TheVariants.{Syntax}

-- ---- numbers and registers

passed : (test : Bool) → T test → test ≡ true
passed true h = refl
passed false h = absurd h

at_most : (a b : ℤ) → a ≤ℤ b → le_z a b ≡ true
at_most a b h = passed (le_z a b) h.le

pub within : (least greatest number : ℤ) → least ≤ℤ number → number ≤ℤ greatest → number_within least greatest number ≡ Ok number
within least greatest number low high =
    let first : le_z least number ≡ true = at_most least number low in
    let last : le_z number greatest ≡ true = at_most number greatest high in
    rw (first, last) refl

register_back : (letter : ℕ) (number : ℤ) → pos 0 ≤ℤ number → number ≤ℤ pos 31 → register_of letter (letter ∷ signed_decimal number) ≡ Ok number
register_back letter (pos n) low high =
    let small : n < 32 = omega (arith, ints, high) in
    let named : register_number letter (letter ∷ decimal n) ≡ Some n = register_read_back letter n small in
    rw named refl
register_back letter (negsuc n) low high = absurd (omega (arith, ints, low))

-- ---- targets: half of a field's double

negative_double : (n : ℕ) → negsuc n *ℤ pos 2 ≡ negsuc (n * 2 + 1)
negative_double n = let more : suc n * 2 ≡ suc (n * 2 + 1) = omega arith in ap (λ m. neg_ℤ (pos m)) more

even : (halves : ℤ) → int_rem_euclid (halves *ℤ pos 2) (pos 2) ≡ pos 0
even (pos n) = ap pos (omega arith)
even (negsuc n) = ap (λ bytes. int_rem_euclid bytes (pos 2)) (negative_double n) ∙ ap pos (omega arith)

halved : (halves : ℤ) → int_shr (halves *ℤ pos 2) 1 ≡ halves
halved (pos n) = ap pos (omega arith)
halved (negsuc n) = ap (λ bytes. int_shr bytes 1) (negative_double n) ∙ ap negsuc (omega arith)

halves_back : (reach halves : ℤ) → (pos 0 -ℤ reach) ≤ℤ halves → halves ≤ℤ (reach -ℤ pos 1) → halves_of reach Syntax (halves *ℤ pos 2) ≡ Ok halves
halves_back reach halves low high =
    let first : le_z (pos 0 -ℤ reach) halves ≡ true = at_most _ _ low in
    let last : le_z halves (reach -ℤ pos 1) ≡ true = at_most _ _ high in
    rw (even halves, halved halves, first, last) refl

-- ---- the fields that slots show, with their numbers

unfoldable pub own_pairs : Slot → List ℤ → List (ℕ × ℤ)
own_pairs (s.Integer field) fields = (field, field_at fields field) ∷ []
own_pairs (s.Vector field) fields = (field, field_at fields field) ∷ []
own_pairs s.MaskRegister fields = []
own_pairs (s.Number field least greatest) fields = (field, field_at fields field) ∷ []
own_pairs (s.Upper field) fields = (field, field_at fields field) ∷ []
own_pairs (s.Based offset base) fields = (offset, field_at fields offset) ∷ (base, field_at fields base) ∷ []
own_pairs (s.Address base) fields = (base, field_at fields base) ∷ []
own_pairs (s.Target field reach) fields = (field, field_at fields field) ∷ []
own_pairs (s.Configuration field greatest) fields = (field, field_at fields field) ∷ []
own_pairs (s.Mask field) fields = if unsigned_abs (field_at fields field) == 0 then (field, pos 0) ∷ [] else []

unfoldable pub all_pairs : List Slot → List ℤ → List (ℕ × ℤ)
all_pairs [] fields = []
all_pairs (slot ∷ slots) fields = own_pairs slot fields ++ all_pairs slots fields

-- ---- a slot that shows one operand

unfoldable pub is_plain : Slot → Bool
is_plain (s.Configuration field greatest) = false
is_plain (s.Mask field) = false
is_plain slot = true

one_more : (c : Context) (slot : Slot) (slots : List Slot) (fields : List ℤ) (operand : Operand)
    → named_at (slot ∷ slots) (operand ∷ all_shown slots fields) ≡ None → given c slot operand ≡ Ok (own_pairs slot fields)
    → given_all c slots (all_shown slots fields) ≡ Ok (all_pairs slots fields)
    → given_all c (slot ∷ slots) (operand ∷ all_shown slots fields) ≡ Ok (all_pairs (slot ∷ slots) fields)
unfolding given_all all_pairs
one_more c slot slots fields operand unnamed first later = rw (unnamed, first, later) refl

-- its operand gives its fields
plain_given : (c : Context) (slot : Slot) (slots : List Slot) (fields : List ℤ) → is_plain slot ≡ true → FitsSlot fields slot
    → given_all c slots (all_shown slots fields) ≡ Ok (all_pairs slots fields)
    → given_all c (slot ∷ slots) (all_shown (slot ∷ slots) fields) ≡ Ok (all_pairs (slot ∷ slots) fields)
unfolding is_plain given shown all_shown own_pairs all_pairs
plain_given c (s.Integer field) slots fields plain fits later =
    let first = register_back integer_letter (field_at fields field) fits.0 fits.1 in
    one_more c (s.Integer field) slots fields (o.Word (register_in integer_letter fields field)) refl (rw first refl) later
plain_given c (s.Vector field) slots fields plain fits later =
    let first = register_back vector_letter (field_at fields field) fits.0 fits.1 in
    one_more c (s.Vector field) slots fields (o.Word (register_in vector_letter fields field)) refl (rw first refl) later
plain_given c s.MaskRegister slots fields plain fits later =
    one_more c s.MaskRegister slots fields (o.Word (codes "v0")) refl refl later
plain_given c (s.Number field least greatest) slots fields plain fits later =
    let first = within least greatest (field_at fields field) fits.0 fits.1 in
    one_more c (s.Number field least greatest) slots fields (o.Number (field_at fields field)) refl (rw first refl) later
plain_given c (s.Upper field) slots fields plain fits later =
    let first = within (pos 0) (pos 1048575) (field_at fields field) fits.0 fits.1 in
    one_more c (s.Upper field) slots fields (o.Number (field_at fields field)) refl (rw first refl) later
plain_given c (s.Based offset base) slots fields plain fits later =
    let first = within (negsuc 2047) (pos 2047) (field_at fields offset) fits.0.0 fits.0.1 in
    let second = register_back integer_letter (field_at fields base) fits.1.0 fits.1.1 in
    one_more c (s.Based offset base) slots fields (o.Based (field_at fields offset) (register_in integer_letter fields base)) refl (rw (first, second) refl)
    later
plain_given c (s.Address base) slots fields plain fits later =
    let first = register_back integer_letter (field_at fields base) fits.0 fits.1 in
    one_more c (s.Address base) slots fields (o.Bracketed (register_in integer_letter fields base)) refl (rw first refl) later
plain_given c (s.Target field reach) slots fields plain fits later =
    let first = halves_back reach (field_at fields field) fits.0 fits.1 in
    one_more c (s.Target field reach) slots fields (o.Number (field_at fields field *ℤ pos 2)) refl (rw first refl) later
plain_given c (s.Configuration field greatest) slots fields plain fits later = absurd cc
plain_given c (s.Mask field) slots fields plain fits later = absurd cc

-- ---- a vtype: four names, or a number

named_given : (c : Context) (field : ℕ) (greatest : ℤ) (vtype : ℕ) → pos 0 ≤ℤ pos vtype → pos vtype ≤ℤ greatest → has_names vtype ≡ true
    → given_all c (s.Configuration field greatest ∷ []) (vtype_shown vtype ++ []) ≡ Ok ((field, pos vtype) ∷ [])
unfolding given_all vtype_shown
named_given c field greatest vtype low high named =
    let meant : vtype_named (name_at width_names (width_code vtype)) (name_at group_names (group_code vtype)) (name_at tail_names (tail_code vtype))
    (name_at mask_names (mask_code vtype)) ≡ Some vtype = vtype_read_back vtype named in
    rw (named, meant, within (pos 0) greatest (pos vtype) low high) refl

number_given : (c : Context) (field : ℕ) (greatest : ℤ) (vtype : ℕ) → pos 0 ≤ℤ pos vtype → pos vtype ≤ℤ greatest → has_names vtype ≡ false
    → given_all c (s.Configuration field greatest ∷ []) (vtype_shown vtype ++ []) ≡ Ok ((field, pos vtype) ∷ [])
unfolding given given_all vtype_shown
number_given c field greatest vtype low high unnamed = rw (unnamed, within (pos 0) greatest (pos vtype) low high) refl

vtype_given : (c : Context) (field : ℕ) (greatest number : ℤ) → pos 0 ≤ℤ number → number ≤ℤ greatest
    → given_all c (s.Configuration field greatest ∷ []) (vtype_shown (unsigned_abs number) ++ []) ≡ Ok ((field, number) ∷ [])
vtype_given c field greatest (pos vtype) low high =
    elim (has_names vtype) as (λ named. has_names vtype ≡ named → given_all c (s.Configuration field greatest ∷ []) (vtype_shown vtype ++ [])
    ≡ Ok ((field, pos vtype) ∷ [])) [
      | true ↦ λ e. named_given c field greatest vtype low high e
      | false ↦ λ e. number_given c field greatest vtype low high e
    ] refl
vtype_given c field greatest (negsuc n) low high = absurd (omega (arith, ints, low))

-- ---- a mask: an operand, or none

mask_given : (c : Context) (field : ℕ) (written : Bool)
    → given_all c (s.Mask field ∷ []) ((if written then o.Word (codes "v0.t") ∷ [] else []) ++ []) ≡ Ok ((if written then (field, pos 0) ∷ [] else []) ++ [])
unfolding given given_all
mask_given c field true = refl
mask_given c field false = refl

-- ---- all slots, where a vtype and a mask stand last

unfoldable pub is_ordered : List Slot → Bool
is_ordered [] = true
is_ordered (slot ∷ []) = true
is_ordered (slot ∷ next ∷ slots) = is_plain slot && is_ordered (next ∷ slots)

last_given : (c : Context) (slot : Slot) (fields : List ℤ) → FitsSlot fields slot → given_all c (slot ∷ []) (all_shown (slot ∷ []) fields)
    ≡ Ok (all_pairs (slot ∷ []) fields)
unfolding is_plain given_all shown all_shown own_pairs all_pairs
last_given c (s.Configuration field greatest) fields fits = vtype_given c field greatest (field_at fields field) fits.0 fits.1
last_given c (s.Mask field) fields fits = mask_given c field (unsigned_abs (field_at fields field) == 0)
last_given c slot fields fits = plain_given c slot [] fields refl fits refl

pub slots_given : (c : Context) (slots : List Slot) (fields : List ℤ) → is_ordered slots ≡ true → FitsSlots fields slots
    → given_all c slots (all_shown slots fields) ≡ Ok (all_pairs slots fields)
unfolding is_ordered given_all all_shown all_pairs
slots_given c [] fields ordered fits = refl
slots_given c (slot ∷ []) fields ordered fits = last_given c slot fields fits.0
slots_given c (slot ∷ next ∷ slots) fields ordered fits =
    let parts = and_parts (is_plain slot) (is_ordered (next ∷ slots)) ordered in
    plain_given c slot (next ∷ slots) fields parts.0 fits.0 (slots_given c (next ∷ slots) fields parts.1 fits.1)
