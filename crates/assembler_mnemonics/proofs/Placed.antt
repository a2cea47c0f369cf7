-- Fields that the operands of a form filled fit its slots.
use Rattle.std.proofs.Common.{◌≡◌, ℕ, zero, suc, ◌<◌, ◌==◌, ℤ, pos, negsuc, ◌≤ℤ◌, List, [], ◌∷◌, ◌++◌, length, slice_set, refl, sym, ◌∙◌, ap, subst, arith}
use Rattle.std.proofs.Common.{Bool, true, false, not, ◌&&◌, inl, inr, nat_lt}
use Rattle.std.specs.List.{list_all}
use Rattle.std.proofs.lemmas.Int.{ints}
use Rattle.std.proofs.lemmas.Bool.{eqb-true, ltb-true}
use Rattle.std.proofs.lemmas.Bool.Decides.{nat_tests}
use Rattle.std.proofs.Math.ListN.{length-set}
use Rattle.rv_insn.specs.Encoding.{bit_of}
use Rattle.assembler_mnemonics.specs.declared.slots.Slot.{Slot}
use Rattle.assembler_mnemonics.specs.declared.slots.Slot.TheVariants.{Integer, Vector, MaskRegister, Number, Upper, Based, Address, Target, Configuration, Mask}
use Rattle.assembler_mnemonics.specs.declared.forms.MnemonicForm.{MnemonicForm}
use Rattle.assembler_mnemonics.specs.declared.forms.MnemonicForm.TheVariants as f
use Rattle.assembler_mnemonics.specs.Slots.{shape, vector_shape, blank, vector_blank, field_at, IsWithin, FitsSlot, FitsSlots, Keeps}
use Rattle.assembler_mnemonics.specs.Placing.{placed, GivesOne, Gives, AllGive}
use Rattle.assembler_mnemonics.proofs.Named.{both_true}

-- ---- one field

field_kept : (fields : List ℤ) (field other : ℕ) (number : ℤ) → ((field ≡ other) → ⊥) → field_at (slice_set fields field number) other ≡ field_at fields other
field_kept [] field other number apart = refl
field_kept (n ∷ fields) zero zero number apart = absurd (apart refl)
field_kept (n ∷ fields) zero (suc other) number apart = refl
field_kept (n ∷ fields) (suc field) zero number apart = refl
field_kept (n ∷ fields) (suc field) (suc other) number apart = field_kept fields field other number (λ same. apart (ap suc same))

field_set : (fields : List ℤ) (field : ℕ) (number : ℤ) → field < length fields → field_at (slice_set fields field number) field ≡ number
field_set [] field number within = absurd (omega arith)
field_set (n ∷ fields) zero number within = refl
field_set (n ∷ fields) (suc field) number within = field_set fields field number (omega arith)

placed_append : (fields : List ℤ) (own others : List (ℕ × ℤ)) → placed fields (own ++ others) ≡ placed (placed fields own) others
placed_append fields [] others = refl
placed_append fields (pair ∷ own) others = placed_append (slice_set fields pair.0 pair.1) own others

pub length_placed : (fields : List ℤ) (pairs : List (ℕ × ℤ)) → length (placed fields pairs) ≡ length fields
length_placed fields [] = refl
length_placed fields (pair ∷ pairs) = length_placed (slice_set fields pair.0 pair.1) pairs ∙ simp length-set

-- ---- the fields of a slot, which are all that it gives

own_fields : Slot → List ℕ
own_fields (Integer field) = field ∷ []
own_fields (Vector field) = field ∷ []
own_fields MaskRegister = []
own_fields (Number field least greatest) = field ∷ []
own_fields (Upper field) = field ∷ []
own_fields (Based offset base) = offset ∷ base ∷ []
own_fields (Address base) = base ∷ []
own_fields (Target field reach) = field ∷ []
own_fields (Configuration field greatest) = field ∷ []
own_fields (Mask field) = field ∷ []

-- a field is none of these
apart_from : List ℕ → ℕ → Bool
apart_from [] other = true
apart_from (field ∷ fields) other = not (field == other) && apart_from fields other

-- a field is given by none of the slots
free : List Slot → ℕ → Bool
free [] other = true
free (slot ∷ slots) other = apart_from (own_fields slot) other && free slots other

told : (field other : ℕ) → not (field == other) ≡ true → (field ≡ other) → ⊥
told field other e same = grind (arith, nat_tests)

one_kept : (fields : List ℤ) (field other : ℕ) (least greatest : ℤ) (pairs : List (ℕ × ℤ)) → GivesOne field least greatest pairs → not (field == other) ≡ true
    → field_at (placed fields pairs) other ≡ field_at fields other
one_kept fields field other least greatest pairs h e =
    subst (λ ps. field_at (placed fields ps) other ≡ field_at fields other) (sym h.1) (field_kept fields field other h.0 (told field other e))

slot_kept : (slot : Slot) (fields : List ℤ) (other : ℕ) (pairs : List (ℕ × ℤ)) → Gives slot pairs → apart_from (own_fields slot) other ≡ true
    → field_at (placed fields pairs) other ≡ field_at fields other
unfolding apart_from own_fields
slot_kept (Integer field) fields other pairs h e = one_kept fields field other _ _ pairs h (both_true _ _ e).0
slot_kept (Vector field) fields other pairs h e = one_kept fields field other _ _ pairs h (both_true _ _ e).0
slot_kept MaskRegister fields other pairs h e = subst (λ ps. field_at (placed fields ps) other ≡ field_at fields other) (sym h) refl
slot_kept (Number field least greatest) fields other pairs h e = one_kept fields field other _ _ pairs h (both_true _ _ e).0
slot_kept (Upper field) fields other pairs h e = one_kept fields field other _ _ pairs h (both_true _ _ e).0
slot_kept (Based offset base) fields other pairs h e =
    let later = both_true _ _ (both_true _ _ e).1 in
    subst (λ ps. field_at (placed fields ps) other ≡ field_at fields other) (sym h.4)
    (ap (λ fs. field_at fs other) (placed_append fields h.0 h.1)
    ∙ one_kept (placed fields h.0) base other _ _ h.1 h.3 later.0
    ∙ one_kept fields offset other _ _ h.0 h.2 (both_true _ _ e).0)
slot_kept (Address base) fields other pairs h e = one_kept fields base other _ _ pairs h (both_true _ _ e).0
slot_kept (Target field reach) fields other pairs h e = one_kept fields field other _ _ pairs h (both_true _ _ e).0
slot_kept (Configuration field greatest) fields other pairs h e = one_kept fields field other _ _ pairs h (both_true _ _ e).0
slot_kept (Mask field) fields other pairs (inl h) e = subst (λ ps. field_at (placed fields ps) other ≡ field_at fields other) (sym h) refl
slot_kept (Mask field) fields other pairs (inr h) e = one_kept fields field other _ _ pairs h (both_true _ _ e).0

free_kept : (slots : List Slot) (fields : List ℤ) (other : ℕ) (pairs : List (ℕ × ℤ)) → AllGive slots pairs → free slots other ≡ true
    → field_at (placed fields pairs) other ≡ field_at fields other
unfolding free
free_kept [] fields other pairs h e = subst (λ ps. field_at (placed fields ps) other ≡ field_at fields other) (sym h) refl
free_kept (slot ∷ slots) fields other pairs h e =
    let both = both_true _ _ e in
    subst (λ ps. field_at (placed fields ps) other ≡ field_at fields other) (sym h.4)
    (ap (λ fs. field_at fs other) (placed_append fields h.0 h.1)
    ∙ free_kept slots (placed fields h.0) other h.1 h.3 both.1
    ∙ slot_kept slot fields other h.0 h.2 both.0)

-- ---- what a slot gave is in its fields

-- the slot's fields are there, and are different ones
in_place : ℕ → Slot → Bool
in_place count (Integer field) = nat_lt field count
in_place count (Vector field) = nat_lt field count
in_place count MaskRegister = true
in_place count (Number field least greatest) = nat_lt field count
in_place count (Upper field) = nat_lt field count
in_place count (Based offset base) = nat_lt offset count && (nat_lt base count && not (base == offset))
in_place count (Address base) = nat_lt base count
in_place count (Target field reach) = nat_lt field count
in_place count (Configuration field greatest) = nat_lt field count
in_place count (Mask field) = nat_lt field count

is_one : ℤ → Bool
is_one (pos n) = n == 1
is_one (negsuc n) = false

-- a mask that isn't written is 1 from the beginning
ready : List ℤ → Slot → Bool
ready fields (Mask field) = is_one (field_at fields field)
ready fields slot = true

one_within : (n : ℤ) → is_one n ≡ true → (pos 0 ≤ℤ n) × (n ≤ℤ pos 1)
unfolding is_one
one_within (pos n) e = let same : n ≡ 1 = eqb-true n 1 e in (omega (arith, ints), omega (arith, ints))
one_within (negsuc n) e = absurd cc

one_fits : (fields : List ℤ) (field : ℕ) (least greatest : ℤ) (pairs : List (ℕ × ℤ)) → GivesOne field least greatest pairs → nat_lt field (length fields) ≡ true
    → IsWithin (placed fields pairs) field least greatest
one_fits fields field least greatest pairs h e =
    subst (λ ps. IsWithin (placed fields ps) field least greatest) (sym h.1)
    (let same = sym (field_set fields field h.0 (ltb-true field (length fields) e)) in
    (subst (λ n. least ≤ℤ n) same h.2, subst (λ n. n ≤ℤ greatest) same h.3))

within_same : (fields later : List ℤ) (field : ℕ) (least greatest : ℤ) → field_at later field ≡ field_at fields field → IsWithin fields field least greatest
    → IsWithin later field least greatest
within_same fields later field least greatest e h = (subst (λ n. least ≤ℤ n) (sym e) h.0, subst (λ n. n ≤ℤ greatest) (sym e) h.1)

slot_fits : (slot : Slot) (fields : List ℤ) (pairs : List (ℕ × ℤ)) → Gives slot pairs → in_place (length fields) slot ≡ true → ready fields slot ≡ true
    → FitsSlot (placed fields pairs) slot
unfolding in_place ready
slot_fits (Integer field) fields pairs h e m = one_fits fields field _ _ pairs h e
slot_fits (Vector field) fields pairs h e m = one_fits fields field _ _ pairs h e
slot_fits MaskRegister fields pairs h e m = tt
slot_fits (Number field least greatest) fields pairs h e m = one_fits fields field _ _ pairs h e
slot_fits (Upper field) fields pairs h e m = one_fits fields field _ _ pairs h e
slot_fits (Based offset base) fields pairs h e m =
    let parts = both_true _ _ e in
    let more = both_true _ _ parts.1 in
    let there = subst (λ n. nat_lt base n ≡ true) (sym (length_placed fields h.0)) more.0 in
    let same = placed_append fields h.0 h.1 in
    subst (λ ps. FitsSlot (placed fields ps) (Based offset base)) (sym h.4)
    (subst (λ fs. FitsSlot fs (Based offset base)) (sym same) (
      within_same (placed fields h.0) (placed (placed fields h.0) h.1) offset _ _ (one_kept (placed fields h.0) base offset _ _ h.1 h.3 more.1)
          (one_fits fields offset _ _ h.0 h.2 parts.0),
      one_fits (placed fields h.0) base _ _ h.1 h.3 there,
    ))
slot_fits (Address base) fields pairs h e m = one_fits fields base _ _ pairs h e
slot_fits (Target field reach) fields pairs h e m = one_fits fields field _ _ pairs h e
slot_fits (Configuration field greatest) fields pairs h e m = one_fits fields field _ _ pairs h e
slot_fits (Mask field) fields pairs (inl h) e m = subst (λ ps. IsWithin (placed fields ps) field (pos 0) (pos 1)) (sym h) (one_within _ m)
slot_fits (Mask field) fields pairs (inr h) e m = let fits = one_fits fields field _ _ pairs h e in (fits.0, omega (arith, ints, fits.1))

-- ---- and stays there

SameAt : List ℕ → List ℤ → List ℤ → Type 0
SameAt [] fields later = Unit {0}
SameAt (field ∷ more) fields later = (field_at later field ≡ field_at fields field) × SameAt more fields later

fits_same : (slot : Slot) (fields later : List ℤ) → FitsSlot fields slot → SameAt (own_fields slot) fields later → FitsSlot later slot
unfolding own_fields SameAt
fits_same (Integer field) fields later h e = within_same fields later field _ _ e.0 h
fits_same (Vector field) fields later h e = within_same fields later field _ _ e.0 h
fits_same MaskRegister fields later h e = tt
fits_same (Number field least greatest) fields later h e = within_same fields later field _ _ e.0 h
fits_same (Upper field) fields later h e = within_same fields later field _ _ e.0 h
fits_same (Based offset base) fields later h e = (within_same fields later offset _ _ e.0 h.0, within_same fields later base _ _ e.1.0 h.1)
fits_same (Address base) fields later h e = within_same fields later base _ _ e.0 h
fits_same (Target field reach) fields later h e = within_same fields later field _ _ e.0 h
fits_same (Configuration field greatest) fields later h e = within_same fields later field _ _ e.0 h
fits_same (Mask field) fields later h e = within_same fields later field _ _ e.0 h

all_same : (own : List ℕ) (slots : List Slot) (fields : List ℤ) (pairs : List (ℕ × ℤ)) → AllGive slots pairs → list_all (free slots) own ≡ true
    → SameAt own fields (placed fields pairs)
unfolding SameAt
all_same [] slots fields pairs h e = tt
all_same (field ∷ own) slots fields pairs h e =
    let both = both_true _ _ e in
    (free_kept slots fields field pairs h both.0, all_same own slots fields pairs h both.1)

-- ---- all slots

mask_apart : List ℕ → Slot → Bool
mask_apart own (Mask field) = apart_from own field
mask_apart own slot = true

distinct : List Slot → Bool
distinct [] = true
distinct (slot ∷ slots) = list_all (free slots) (own_fields slot) && (list_all (mask_apart (own_fields slot)) slots && distinct slots)

ready_kept : (slot next : Slot) (fields : List ℤ) (own : List (ℕ × ℤ)) → Gives slot own → mask_apart (own_fields slot) next ≡ true → ready fields next ≡ true
    → ready (placed fields own) next ≡ true
unfolding ready mask_apart
ready_kept slot (Integer field) fields own h e m = refl
ready_kept slot (Vector field) fields own h e m = refl
ready_kept slot MaskRegister fields own h e m = refl
ready_kept slot (Number field least greatest) fields own h e m = refl
ready_kept slot (Upper field) fields own h e m = refl
ready_kept slot (Based offset base) fields own h e m = refl
ready_kept slot (Address base) fields own h e m = refl
ready_kept slot (Target field reach) fields own h e m = refl
ready_kept slot (Configuration field greatest) fields own h e m = refl
ready_kept slot (Mask field) fields own h e m = subst (λ n. is_one n ≡ true) (sym (slot_kept slot fields field own h e)) m

all_ready_kept : (slot : Slot) (slots : List Slot) (fields : List ℤ) (own : List (ℕ × ℤ)) → Gives slot own → list_all (mask_apart (own_fields slot)) slots
    ≡ true → list_all (ready fields) slots ≡ true → list_all (ready (placed fields own)) slots ≡ true
all_ready_kept slot [] fields own h e m = refl
all_ready_kept slot (next ∷ slots) fields own h e m =
    let apart = both_true _ _ e in
    let before = both_true _ _ m in
    let first : ready (placed fields own) next ≡ true = ready_kept slot next fields own h apart.0 before.0 in
    rw first (all_ready_kept slot slots fields own h apart.1 before.1)

all_fit : (slots : List Slot) (fields : List ℤ) (pairs : List (ℕ × ℤ)) → AllGive slots pairs → list_all (in_place (length fields)) slots ≡ true
    → list_all (ready fields) slots ≡ true → distinct slots ≡ true → FitsSlots (placed fields pairs) slots
unfolding distinct
all_fit [] fields pairs h e m d = tt
all_fit (slot ∷ slots) fields pairs h e m d =
    let own = h.0 in
    let others = h.1 in
    let there = both_true _ _ e in
    let marks = both_true _ _ m in
    let apart = both_true _ _ d in
    let later = both_true _ _ apart.1 in
    let there_still = subst (λ n. list_all (in_place n) slots ≡ true) (sym (length_placed fields own)) there.1 in
    let fits = slot_fits slot fields own h.2 there.0 marks.0 in
    subst (λ ps. FitsSlots (placed fields ps) (slot ∷ slots)) (sym h.4)
    (subst (λ fs. FitsSlots fs (slot ∷ slots)) (sym (placed_append fields own others)) (
      fits_same slot (placed fields own) (placed (placed fields own) others) fits (all_same (own_fields slot) slots (placed fields own) others h.3 apart.0),
      all_fit slots (placed fields own) others h.3 there_still (all_ready_kept slot slots fields own h.2 later.0 marks.1) later.1,
    ))

-- ---- the slots of forms

fillable : List ℤ → List Slot → Bool
fillable fields slots = list_all (in_place (length fields)) slots && (list_all (ready fields) slots && distinct slots)

form_fillable : (form : MnemonicForm) → fillable (blank form) (shape form) ≡ true
unfolding fillable in_place ready is_one distinct free own_fields apart_from mask_apart blank vector_blank shape vector_shape
form_fillable form = grind arith

pub filled_fits : (form : MnemonicForm) (pairs : List (ℕ × ℤ)) → AllGive (shape form) pairs → FitsSlots (placed (blank form) pairs) (shape form)
unfolding fillable
filled_fits form pairs h =
    let first = both_true _ _ (form_fillable form) in
    let second = both_true _ _ first.1 in
    all_fit (shape form) (blank form) pairs h first.0 second.0 second.1

pub filled_keeps : (form : MnemonicForm) (pairs : List (ℕ × ℤ)) → AllGive (shape form) pairs → Keeps form (placed (blank form) pairs)
unfolding shape blank free own_fields apart_from
filled_keeps (f.AmoaddW aq rl) pairs h = (
  free_kept (Integer 0 ∷ Integer 2 ∷ Address 1 ∷ []) (pos 0 ∷ pos 0 ∷ pos 0 ∷ pos (bit_of aq) ∷ pos (bit_of rl) ∷ []) 3 pairs h refl,
  free_kept (Integer 0 ∷ Integer 2 ∷ Address 1 ∷ []) (pos 0 ∷ pos 0 ∷ pos 0 ∷ pos (bit_of aq) ∷ pos (bit_of rl) ∷ []) 4 pairs h refl,
)
filled_keeps form pairs h = tt
