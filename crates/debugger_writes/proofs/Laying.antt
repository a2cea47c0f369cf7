-- Pages that are laid over data, and what data hold then.
use Rattle.std.proofs.Common.{◌≡◌, ◌∙◌, ◌+◌, ◌*◌, ◌/◌, ◌%◌, ◌<◌, ◌≤◌, ◌==◌, ℕ, Bool, false, refl, sym, ap, subst, arith, List, [], ◌∷◌, ◌++◌, length, All}
use Rattle.std.proofs.Common.{Option, Some, None, inl, inr}
use Rattle.std.specs.Prelude.{if◌then◌else◌, nat_lt, slice_index, slice_set}
use Rattle.std.proofs.lemmas.Bool.{cases_lt, cases_eq, cond-true, cond-false, eq-eqb, ne_eqb, lt-ltb, le-ltb}
use Rattle.std.proofs.lemmas.List.{get_or-set_same, get_or-set_other, get_or_past}
use Rattle.std.proofs.lemmas.List.Elements.{All-push}
use Rattle.multi_hart.specs.Parts.{IsPut}
use Rattle.debugger_writes.specs.declared.pages.PageCopy.{PageCopy}
use Rattle.debugger_writes.specs.Pages.{AreBelow, Holds, HoldsUnwritten, IsPage, found, is_written, laid, laid_slot, lowest, over, pages_of, slot_at}

pub holds_same : (memory : List ℕ) (f g : ℕ → ℕ) → ((i : ℕ) → f i ≡ g i) → Holds memory f → Holds memory g
holds_same memory f g same holds = record { each = λ i below. holds.each i below ∙ same i }

-- the page's own bytes, and all others
laid-inside : (copy : PageCopy) (f : ℕ → ℕ) (i : ℕ) → i / 4096 ≡ copy.number → laid copy f i ≡ slice_index copy.bytes.items (i % 4096)
laid-inside copy f i same = cond-true ((i / 4096) == copy.number) _ (f i) (eq-eqb (i / 4096) copy.number same)

laid-outside : (copy : PageCopy) (f : ℕ → ℕ) (i : ℕ) → (i / 4096 ≡ copy.number → ⊥) → laid copy f i ≡ f i
laid-outside copy f i other = cond-false ((i / 4096) == copy.number) _ (f i) (ne_eqb (i / 4096) copy.number other)

-- a page that is put back
pub laid_put : (old new : List ℕ) (copy : PageCopy) → IsPut old (copy.number * 4096) copy.bytes.items new → IsPage (length old) copy → (f : ℕ → ℕ) → Holds old f
    → Holds new (laid copy f)
laid_put old new copy put page f holds = record {
  each = λ i below.
      let size : length new ≡ length old = put.as_many in
      let fits = page.few in
      elim (cases_eq (i / 4096) copy.number) [
        | inl same ↦
            let at : copy.number * 4096 + i % 4096 ≡ i = omega (arith, same) in
            ap (slice_index new) (sym at) ∙ put.inside (i % 4096) (page.whole i (omega (arith, size, below)) same) ∙ sym (laid-inside copy f i same)
        | inr other ↦ elim (cases_lt i (copy.number * 4096)) [
          | inl before ↦ put.before i before ∙ holds.each i (omega (arith, size, below)) ∙ sym (laid-outside copy f i other)
          | inr behind ↦
              let past : copy.number * 4096 + 4096 ≤ i = beyond i copy.number behind other in
              put.behind i (omega (arith, fits, past)) ∙ holds.each i (omega (arith, size, below)) ∙ sym (laid-outside copy f i other)
        ]
      ];
}
  where
    beyond : (i n : ℕ) → n * 4096 ≤ i → (i / 4096 ≡ n → ⊥) → n * 4096 + 4096 ≤ i
    beyond i n from other = elim (cases_lt i (n * 4096 + 4096)) [ inl less ↦ absurd (other (omega (arith, from, less))) | inr more ↦ more ]

pub laid_same : (copy : PageCopy) (f g : ℕ → ℕ) (i : ℕ) → f i ≡ g i → laid copy f i ≡ laid copy g i
laid_same copy f g i same = ap (λ n. if (i / 4096) == copy.number then slice_index copy.bytes.items (i % 4096) else n) same

over-same : (copies : List PageCopy) (f g : ℕ → ℕ) → ((i : ℕ) → f i ≡ g i) → (i : ℕ) → over copies f i ≡ over copies g i
over-same [] f g same i = same i
over-same (copy ∷ copies) f g same i = over-same copies (laid copy f) (laid copy g) (λ k. ap (λ n. if (k / 4096) == copy.number then slice_index
    copy.bytes.items (k % 4096) else n) (same k)) i

pub over_push : (copies : List PageCopy) (copy : PageCopy) (f : ℕ → ℕ) (i : ℕ) → over (copies ++ copy ∷ []) f i ≡ laid copy (over copies f) i
over_push [] copy f i = refl
over_push (first ∷ copies) copy f i = over_push copies copy (laid first f) i

pub over_congruent : (copies : List PageCopy) (f g : ℕ → ℕ) → ((i : ℕ) → f i ≡ g i) → (i : ℕ) → over copies f i ≡ over copies g i
over_congruent copies f g same i = over-same copies f g same i

-- ---- copies of the pages that are marked

-- those before a number are copied
pub record CopiedUpTo (bytes : List ℕ) (written : List Bool) (copies : List PageCopy) (number : ℕ) : Type 0 where
  pub pages : All (IsPage (length bytes)) copies
  pub below : (f : ℕ → ℕ) (i : ℕ) → HoldsUnwritten written bytes f → i < length bytes → i / 4096 < number → slice_index bytes i ≡ over copies f i
  pub above : (f : ℕ → ℕ) (i : ℕ) → number ≤ i / 4096 → over copies f i ≡ f i

pub copied_one : (bytes' : List ℕ) (written : List Bool) (pages : List PageCopy) (number : ℕ) (copy : PageCopy) → CopiedUpTo bytes' written pages number
    → copy.number ≡ number → IsPage (length bytes') copy
    → ((i : ℕ) → i < length bytes' → i / 4096 ≡ number → slice_index copy.bytes.items (i % 4096) ≡ slice_index bytes' i)
    → CopiedUpTo bytes' written (pages ++ copy ∷ []) (number + 1)
copied_one bytes' written pages number copy so_far is page bytes = record {
  pages = All-push (IsPage (length bytes')) pages copy so_far.pages page;
  below = λ f i holds within under.
      elim (cases_lt (i / 4096) number) [
        | inl before ↦ so_far.below f i holds within before ∙ sym (laid-outside copy (over pages f) i (λ e. omega (arith, before, is, e)))
            ∙ sym (over_push pages copy f i)
        | inr here ↦
            let same : i / 4096 ≡ number = omega (arith, under, here) in
            sym (bytes i within same) ∙ sym (laid-inside copy (over pages f) i (same ∙ sym is)) ∙ sym (over_push pages copy f i)
      ];
  above = λ f i up. over_push pages copy f i ∙ laid-outside copy (over pages f) i (λ e. omega (arith, up, is, e)) ∙ so_far.above f i (omega (arith, up));
}

pub passed_one : (bytes' : List ℕ) (written : List Bool) (pages : List PageCopy) (number : ℕ) → CopiedUpTo bytes' written pages number
    → is_written written number ≡ false → CopiedUpTo bytes' written pages (number + 1)
passed_one bytes' written pages number so_far isnt = record {
  pages = so_far.pages;
  below = λ f i holds within under.
      elim (cases_lt (i / 4096) number) [
        | inl before ↦ so_far.below f i holds within before
        | inr here ↦
            let same : i / 4096 ≡ number = omega (arith, under, here) in
            holds.each i within (ap (is_written written) same ∙ isnt) ∙ sym (so_far.above f i here)
      ];
  above = λ f i up. so_far.above f i (omega (arith, up));
}

pub all_copied : (bytes' : List ℕ) (written : List Bool) (pages : List PageCopy) → CopiedUpTo bytes' written pages (length written)
    → length written ≡ pages_of (length bytes') → (f : ℕ → ℕ) → HoldsUnwritten written bytes' f → Holds bytes' (over pages f)
all_copied bytes' written pages so_far size f holds = record {
  each = λ i within. so_far.below f i holds within (omega (arith, size, within));
}

-- ---- places for pages

-- those below a number are laid over what was there
abbrev pub up_to : ℕ → List (Option PageCopy) → (ℕ → ℕ) → ℕ → ℕ
up_to number below f i = if nat_lt (i / 4096) number then lowest below f i else f i

pub none_laid : (below : List (Option PageCopy)) (f : ℕ → ℕ) (i : ℕ) → f i ≡ up_to 0 below f i
none_laid below f i = sym (cond-false (nat_lt (i / 4096) 0) (lowest below f i) (f i) (le-ltb (i / 4096) 0 (omega arith)))

-- below the number, and from it on
up-to-before : (below : List (Option PageCopy)) (f : ℕ → ℕ) (number i : ℕ) → i / 4096 < number → up_to number below f i ≡ lowest below f i
up-to-before below f number i less = cond-true (nat_lt (i / 4096) number) (lowest below f i) (f i) (lt-ltb (i / 4096) number less)

up-to-behind : (below : List (Option PageCopy)) (f : ℕ → ℕ) (number i : ℕ) → number ≤ i / 4096 → up_to number below f i ≡ f i
up-to-behind below f number i up = cond-false (nat_lt (i / 4096) number) (lowest below f i) (f i) (le-ltb (i / 4096) number up)

-- what a slot has at its own page
slot-here : (below : List (Option PageCopy)) (f : ℕ → ℕ) (number i : ℕ) (slot : Option PageCopy) → slot_at below number ≡ slot → i / 4096 ≡ number
    → found slot i (f i) ≡ lowest below f i
slot-here below f number i slot is same = sym (ap (λ n. found (slot_at below n) i (f i)) same ∙ ap (λ (o : Option PageCopy). found o i (f i)) is)

-- a page that isn't the number's own is as before
elsewhere : (below : List (Option PageCopy)) (f : ℕ → ℕ) (number i : ℕ) → (i / 4096 ≡ number → ⊥) → up_to number below f i ≡ up_to (number + 1) below f i
elsewhere below f number i other = elim (cases_lt (i / 4096) number) [
  | inl less ↦ up-to-before below f number i less ∙ sym (up-to-before below f (number + 1) i (omega (arith, less)))
  | inr up ↦ up-to-behind below f number i up ∙ sym (up-to-behind below f (number + 1) i (omega (arith, up, other)))
]

slot-laid : (below : List (Option PageCopy)) (f g : ℕ → ℕ) (number i : ℕ) (slot : Option PageCopy) → slot_at below number ≡ slot
    → ((copy : PageCopy) → slot ≡ Some copy → copy.number ≡ number) → g i ≡ up_to number below f i → laid_slot slot g i ≡ up_to (number + 1) below f i
slot-laid below f g number i None is numbered before = elim (cases_eq (i / 4096) number) [
  | inl same ↦
      before ∙ up-to-behind below f number i (omega (arith, same)) ∙ slot-here below f number i None is same
      ∙ sym (up-to-before below f (number + 1) i (omega (arith, same)))
  | inr other ↦ before ∙ elsewhere below f number i other
]
slot-laid below f g number i (Some copy) is numbered before =
    let own : copy.number ≡ number = numbered copy refl in
    elim (cases_eq (i / 4096) number) [
      | inl same ↦
          laid-inside copy g i (same ∙ sym own) ∙ slot-here below f number i (Some copy) is same
          ∙ sym (up-to-before below f (number + 1) i (omega (arith, same)))
      | inr other ↦ laid-outside copy g i (λ e. other (e ∙ own)) ∙ before ∙ elsewhere below f number i other
    ]

-- one slot more
pub slot_more : (size : ℕ) (below : List (Option PageCopy)) (f g : ℕ → ℕ) (number : ℕ) (slot : Option PageCopy) → AreBelow size below
    → slot_at below number ≡ slot → ((i : ℕ) → g i ≡ up_to number below f i) → (i : ℕ) → laid_slot slot g i ≡ up_to (number + 1) below f i
slot_more size below f g number slot are is before i =
    slot-laid below f g number i slot is (λ copy some. are.number number copy (is ∙ some)) (before i)

pub all_laid : (below : List (Option PageCopy)) (f : ℕ → ℕ) (i : ℕ) → up_to (length below) below f i ≡ lowest below f i
all_laid below f i = elim (cases_lt (i / 4096) (length below)) [
  | inl less ↦ up-to-before below f (length below) i less
  | inr past ↦ up-to-behind below f (length below) i past ∙ sym (ap (λ (o : Option PageCopy). found o i (f i)) (get_or_past below (i / 4096) None past))
]

-- a page that takes a place
set-here : (below : List (Option PageCopy)) (n : ℕ) (slot : Option PageCopy) → n < length below → slot_at (slice_set below n slot) n ≡ slot
set-here below n slot less = get_or-set_same below n slot None less

set-other : (below : List (Option PageCopy)) (n k : ℕ) (slot : Option PageCopy) → (k ≡ n → ⊥) → slot_at (slice_set below n slot) k ≡ slot_at below k
set-other below n k slot other = get_or-set_other below n k slot None other

pub settled_one : (below : List (Option PageCopy)) (copy : PageCopy) (f : ℕ → ℕ) (i : ℕ) → copy.number < length below
    → lowest (slice_set below copy.number (Some copy)) f i ≡ laid copy (lowest below f) i
settled_one below copy f i less =
    elim (cases_eq (i / 4096) copy.number) [
      | inl same ↦
          ap (λ n. found (slot_at (slice_set below copy.number (Some copy)) n) i (f i)) same
          ∙ ap (λ o. found o i (f i)) (set-here below copy.number (Some copy) less)
          ∙ sym (laid-inside copy (lowest below f) i same)
      | inr other ↦
          ap (λ o. found o i (f i)) (set-other below copy.number (i / 4096) (Some copy) other)
          ∙ sym (laid-outside copy (lowest below f) i other)
    ]

pub settled_below : (size : ℕ) (below : List (Option PageCopy)) (copy : PageCopy) → copy.number < length below → AreBelow size below → IsPage size copy
    → AreBelow size (slice_set below copy.number (Some copy))
settled_below size below copy less are page = record {
  number = λ n other is. elim (cases_eq n copy.number) [
    | inl same ↦ (let one : Some copy ≡ Some other = sym (set-here below copy.number (Some copy) less)
        ∙ ap (slot_at (slice_set below copy.number (Some copy))) (sym same) ∙ is in let it : copy ≡ other = cc in ap (λ (p : PageCopy). p.number) (sym it)
        ∙ sym same)
    | inr apart ↦ are.number n other (sym (set-other below copy.number n (Some copy) apart) ∙ is)
  ];
  page = λ n other is. elim (cases_eq n copy.number) [
    | inl same ↦ (let one : Some copy ≡ Some other = sym (set-here below copy.number (Some copy) less)
        ∙ ap (slot_at (slice_set below copy.number (Some copy))) (sym same) ∙ is in let it : copy ≡ other = cc in subst (λ (p : PageCopy). IsPage size p) it
        page)
    | inr apart ↦ are.page n other (sym (set-other below copy.number n (Some copy) apart) ∙ is)
  ];
}
