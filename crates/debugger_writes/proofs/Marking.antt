-- Pages that are marked along turns.
use Rattle.std.proofs.Common.{◌≡◌, ◌∙◌, ◌+◌, ◌-◌, ◌/◌, ◌<◌, ◌≤◌, ℕ, Bool, true, refl, sym, ap, arith, List, [], ◌++◌, ◌∷◌, length, length-set, take, drop}
use Rattle.std.proofs.Common.{get_or, All, Some, None, subst, inl, inr, true≢false}
use Rattle.std.specs.Prelude.{◌≢◌, option_and_then, slice_get, slice_index, slice_index_or, slice_set}
use Rattle.std.proofs.Math.Seq.{take-length}
use Rattle.std.proofs.lemmas.Bool.{cases_Bool, cases_eq, cases_lt, cond-false, cond-true, eq-eqb, ne_eqb}
use Rattle.std.proofs.lemmas.List.{get_or-set_same, get_or-set_other, get_or_past, get_or_push, length_push, take_at}
use Rattle.std.proofs.lemmas.List.Elements.{All-get_or, All-same, All-take}
use Rattle.memory.specs.Access.{access_at, bytes_in, places_of, touched, data_start, fetched}
use Rattle.rv_insn.specs.declared.vector_operations.ElementWidth.{ElementWidth}
use Rattle.rv_insn.specs.declared.vector_operations.ElementWidth.TheVariants.{Bits8, Bits16, Bits32}
use Rattle.hart_core.specs.Scalar.{illegal_fault}
use Rattle.hart_core.specs.VectorRows.{accesses_at, size_of}
use Rattle.multi_hart.specs.Run.{is_in, State, hart_at, outcome, turn}
use Rattle.multi_hart.proofs.Resting.{there as there-is}
use Rattle.multi_hart.proofs.TurnByTurn.{shape-turn}
use Rattle.debugger_writes.specs.declared.stores.Stored.{Stored}
use Rattle.debugger_writes.specs.Stored.{places_in, places_stored, store_in, written}
use Rattle.debugger_writes.proofs.Outcomes.{not_stepped, quiet_without_store, stepped, store_is}
use Rattle.debugger_writes.proofs.Untouched.{all-stay, stays}
use Rattle.rv_insn.specs.declared.instructions.Insn.{Insn}
use Rattle.rv_insn.specs.declared.outcomes.Outcome.{Outcome}
use Rattle.rv_insn.specs.declared.outcomes.Outcome.TheVariants.{Finished as HasFinished, Idle, Stepped, Trapped as HasTrapped}
use Rattle.debugger_writes.specs.Pages.{Marked, Marks, is_written}
use Rattle.debugger_writes.specs.inner.Covering.{Covers}

pub marked_none : (was : List Bool) → Marked was was
marked_none was = record { flags = refl; stay = λ page isnt. isnt }

pub marked_then : (was now after : List Bool) → Marked was now → Marked now after → Marked was after
marked_then was now after a b = record { flags = b.flags ∙ a.flags; stay = λ page isnt. a.stay page (b.stay page isnt) }

-- one page more
pub marked_one : (was : List Bool) (number : ℕ) → Marked was (slice_set was number true)
marked_one was number = record {
  flags = length-set was number true;
  stay = λ page isnt. elim (cases_eq page number) [
    | inl same ↦ elim (cases_lt number (length was)) [
      | inl there ↦ absurd (true≢false (sym (ap (λ n. slice_index_or (slice_set was number true) n true) same ∙ get_or-set_same was number true true there)
          ∙ isnt))
      | inr past ↦ absurd (true≢false (sym (get_or_past (slice_set was number true) page true (omega (arith, past, same, length-set was number true))) ∙ isnt))
    ]
    | inr other ↦ sym (get_or-set_other was number page true true other) ∙ isnt
  ];
}

pub is_marked : (was : List Bool) (number : ℕ) → number < length was → is_written (slice_set was number true) number ≡ true
is_marked was number there = get_or-set_same was number true true there

pub past_marked : (was : List Bool) (number : ℕ) → length was ≤ number → is_written was number ≡ true
past_marked was number past = get_or_past was number true past

-- a page that is marked stays so
pub marked_stays : (was now : List Bool) (page : ℕ) → Marked was now → is_written was page ≡ true → is_written now page ≡ true
marked_stays was now page marked is =
    elim (cases_Bool (is_written now page)) [ inl so ↦ so | inr not_so ↦ absurd (true≢false (sym is ∙ marked.stay page not_so)) ]

pub marks_none : (memory : List ℕ) (was : List Bool) → Marks memory memory was was
marks_none memory was = record { as_many = refl; flags = refl; stay = λ page isnt. isnt; kept = λ i below isnt. refl }

pub marks_then : (old new last : List ℕ) (was now after : List Bool) → Marks old new was now → Marks new last now after → Marks old last was after
marks_then old new last was now after a b = record {
  as_many = b.as_many ∙ a.as_many;
  flags = b.flags ∙ a.flags;
  stay = λ page isnt. a.stay page (b.stay page isnt);
  kept = λ i below isnt. (let size = a.as_many in b.kept i (omega (arith, size, below)) isnt ∙ a.kept i below (b.stay (i / 4096) isnt));
}

-- a turn that writes nothing
pub marks_quiet : (old new : List ℕ) (was : List Bool) → new ≡ old → Marks old new was was
marks_quiet old new was same = record {
  as_many = ap (λ (m : List ℕ). length m) same;
  flags = refl;
  stay = λ page isnt. isnt;
  kept =
      λ i below isnt. ap (λ (m : List ℕ). slice_index m i) same;
}

-- ---- places whose pages are marked

pub covers_none : (written : List Bool) → Covers written []
covers_none written = record { each = λ place is from. absurd (true≢false (sym is)) }

in-both : (place : ℕ) (xs ys : List ℕ) → is_in place (xs ++ ys) ≡ true → (is_in place xs ≡ true → ⊥) → is_in place ys ≡ true
in-both place [] ys is isnt = is
in-both place (x ∷ xs) ys is isnt =
    elim (cases_eq place x) [
      | inl same ↦ absurd (isnt (here x xs same))
      | inr other ↦ in-both place xs ys (there x (xs ++ ys) other is) (λ e. isnt (back x xs other e))
    ]
  where
    here : (x : ℕ) (xs : List ℕ) → place ≡ x → is_in place (x ∷ xs) ≡ true
    here x xs same = cond-true _ true (is_in place xs) (eq-eqb place x same)

    there : (x : ℕ) (xs : List ℕ) → (place ≡ x → ⊥) → is_in place (x ∷ xs) ≡ true → is_in place xs ≡ true
    there x xs other e = sym (cond-false _ true (is_in place xs) (ne_eqb place x other)) ∙ e

    back : (x : ℕ) (xs : List ℕ) → (place ≡ x → ⊥) → is_in place xs ≡ true → is_in place (x ∷ xs) ≡ true
    back x xs other e = cond-false _ true (is_in place xs) (ne_eqb place x other) ∙ e

pub covers_both : (written : List Bool) (xs ys : List ℕ) → Covers written xs → Covers written ys → Covers written (xs ++ ys)
covers_both written xs ys a b = record {
  each = λ place is from. elim (cases_Bool (is_in place xs)) [
    | inl so ↦ a.each place so from
    | inr not_so ↦ b.each place (in-both place xs ys is (λ e. true≢false (sym e ∙ not_so))) from
  ];
}

pub covers_later : (was now : List Bool) (places : List ℕ) → Marked was now → Covers was places → Covers now places
covers_later was now places marked covers = record {
  each = λ place is from. marked_stays was now ((place - data_start) / 4096) marked
      (covers.each place is from);
}

-- one of these places
in-one : (place x : ℕ) (xs : List ℕ) (P : Type 0) → is_in place (x ∷ xs) ≡ true → (place ≡ x → P) → (is_in place xs ≡ true → P) → P
in-one place x xs P is here there =
    elim (cases_eq place x) [
      | inl same ↦ here same
      | inr other ↦ there (sym (cond-false _ true (is_in place xs) (ne_eqb place x other)) ∙ is)
    ]

in-none : (place : ℕ) (P : Type 0) → is_in place [] ≡ true → P
in-none place P is = absurd (true≢false (sym is))

-- a number whose first byte and whose last are marked
page-of : (written : List Bool) (first last place : ℕ) → (data_start ≤ first → is_written written ((first - data_start) / 4096) ≡ true)
    → (data_start ≤ last → is_written written ((last - data_start) / 4096) ≡ true)
    → first ≤ place → place ≤ last → last ≤ first + 3 → data_start ≤ place → is_written written ((place - data_start) / 4096) ≡ true
page-of written first last place a b low high near from =
    elim (cases_eq ((place - data_start) / 4096) ((last - data_start) / 4096)) [
      | inl same ↦ ap (is_written written) same ∙ b (omega (arith, high, from))
      | inr other ↦
          let under : data_start ≤ first = before first last place low high near from other in
          let same : (place - data_start) / 4096 ≡ (first - data_start) / 4096 = with_first first last place low high near from other in
          ap (is_written written) same ∙ a under
    ]
  where
    -- data begin at the first byte of a page
    before : (first last place : ℕ) → first ≤ place → place ≤ last → last ≤ first + 3 → data_start ≤ place
        → ((place - data_start) / 4096 ≡ (last - data_start) / 4096 → ⊥) → data_start ≤ first
    before first last place low high near from other =
        elim (cases_lt first data_start) [
          | inl less ↦ absurd (other (omega (arith, less, low, high, near, from)))
          | inr up ↦ up
        ]

    with_first : (first last place : ℕ) → first ≤ place → place ≤ last → last ≤ first + 3 → data_start ≤ place
        → ((place - data_start) / 4096 ≡ (last - data_start) / 4096 → ⊥) → (place - data_start) / 4096 ≡ (first - data_start) / 4096
    with_first first last place low high near from other =
        let up = before first last place low high near from other in
        elim (cases_eq ((place - data_start) / 4096) ((first - data_start) / 4096)) [
          | inl same ↦ same
          | inr apart ↦ absurd (omega (arith, up, low, high, near, from, other, apart))
        ]

pub covers_number : (written : List Bool) (address : ℕ) (width : ElementWidth) (last : ℕ) → last + 1 ≡ bytes_in (size_of width)
    → (data_start ≤ address → is_written written ((address - data_start) / 4096) ≡ true) → (data_start ≤ address + last
    → is_written written ((address + last - data_start) / 4096) ≡ true)
    → Covers written (places_of (access_at (size_of width) address))
covers_number written address Bits8 last is a b = record {
  each = λ place within from.
      in-one place address [] _ within (λ e. page-of written address (address + last) place a b (omega (arith, e)) (omega (arith, e)) (omega (arith, is)) from)
      (in-none place _);
}
covers_number written address Bits16 last is a b = record {
  each = λ place within from.
      in-one place address ((address + 1) ∷ []) _ within (λ e. page-of written address (address + last) place a b (omega (arith, e)) (omega (arith, e))
      (omega (arith, is)) from)
      (λ w. in-one place (address + 1) [] _ w (λ e. page-of written address (address + last) place a b (omega (arith, e)) (omega (arith, e, is))
      (omega (arith, is)) from) (in-none place _));
}
covers_number written address Bits32 last is a b = record {
  each = λ place within from.
      in-one place address ((address + 1) ∷ (address + 2) ∷ (address + 3) ∷ []) _ within (λ e. page-of written address (address + last) place a b
      (omega (arith, e)) (omega (arith, e)) (omega (arith, is)) from)
      (λ w. in-one place (address + 1) ((address + 2) ∷ (address + 3) ∷ []) _ w (λ e. page-of written address (address + last) place a b (omega (arith, e))
      (omega (arith, e, is)) (omega (arith, is)) from)
      (λ v. in-one place (address + 2) ((address + 3) ∷ []) _ v (λ e. page-of written address (address + last) place a b (omega (arith, e))
      (omega (arith, e, is)) (omega (arith, is)) from)
      (λ u. in-one place (address + 3) [] _ u (λ e. page-of written address (address + last) place a b (omega (arith, e)) (omega (arith, e, is))
      (omega (arith, is)) from) (in-none place _))));
}

-- ---- a turn whose places are marked

pub marks_stored : (state : State) (number : ℕ) (was now : List Bool) → slice_get state.harts number ≡ Some (hart_at state number) → Marked was now
    → Covers now (written state number) → Marks state.memory (turn state number).memory was now
marks_stored state number was now there marked covers = record {
  as_many = (shape-turn state number).bytes;
  flags = marked.flags;
  stay = marked.stay;
  kept = λ i below isnt. stays state number i there (elim (cases_Bool (is_in (data_start + i) (written state number))) [
    | inl so ↦
        let same : (data_start + i - data_start) / 4096 ≡ i / 4096 = (let e : data_start + i - data_start ≡ i = omega arith in ap (λ n. n / 4096) e) in
        absurd (true≢false (sym (covers.each (data_start + i) so (omega arith)) ∙ ap (is_written now) same ∙ isnt))
    | inr not_so ↦ not_so
  ]);
}

-- what the instruction stores is what the turn writes, or it writes nothing
pub store_marks : (state : State) (number : ℕ) (insn : Insn) (stored : Stored) (was now : List Bool)
    → slice_get state.harts number ≡ Some (hart_at state number)
    → option_and_then store_in (fetched state.text (hart_at state number).pc) ≡ Some insn
    → (illegal_fault insn (hart_at state number) ≡ None → places_in stored ≡ places_stored insn (hart_at state number))
    → Marked was now → Covers now (places_in stored) → Marks state.memory (turn state number).memory was now
store_marks state number insn stored was now there stores means marked covers = go (outcome state number) refl
  where
    other : outcome state number ≢ Stepped → Marks state.memory (turn state number).memory was now
    other isnt = marks_stored state number was now there marked (subst (λ (ps : List ℕ). Covers now ps) (sym (not_stepped state number there isnt))
        (covers_none now))

    go : (o : Outcome) → outcome state number ≡ o → Marks state.memory (turn state number).memory was now
    go Stepped is =
        let hart = hart_at state number in
        let did = stepped state number there is in
        let same : did.insn ≡ insn = store_is (fetched state.text hart.pc) did.insn insn did.meant_is stores in
        let legal : illegal_fault insn hart ≡ None = sym (ap (λ (i : Insn). illegal_fault i hart) same) ∙ did.legal in
        let all : places_in stored ≡ written state number = means legal ∙ ap (λ (i : Insn). places_stored i hart) (sym same) ∙ sym did.writes_it in
        marks_stored state number was now there marked (subst (λ (ps : List ℕ). Covers now ps) all covers)
    go HasFinished is = other (λ e. (let apart : HasFinished ≡ Stepped = sym is ∙ e in cc))
    go Idle is = other (λ e. (let apart : Idle ≡ Stepped = sym is ∙ e in cc))
    go (HasTrapped trap) is = other (λ e. (let apart : HasTrapped trap ≡ Stepped = sym is ∙ e in cc))

-- and of a hart whose instruction doesn't store
pub quiet_memory : (state : State) (number : ℕ) → number < length state.harts → option_and_then store_in (fetched state.text (hart_at state number).pc) ≡ None
    → (turn state number).memory ≡ state.memory
quiet_memory state number below none = all-stay state number (there-is state number below) (quiet_without_store state number (there-is state number below) none)

-- ---- numbers one after the other

pub none_covered : (written : List Bool) (width : ElementWidth) (addresses : List ℕ) → length addresses < 1
    → Covers written (touched (accesses_at width addresses))
none_covered written width [] few = covers_none written
none_covered written width (address ∷ others) few = absurd (omega (arith, few))

pub numbers_covered : (width : ElementWidth) (addresses : List ℕ) (between new : List Bool) → 1 ≤ length addresses → Marked between new
    → Covers between (places_of (access_at (size_of width) (get_or addresses 0 0)))
    → Covers new (touched (accesses_at width (take (length addresses - 1) (drop 1 addresses))))
    → Covers new (touched (accesses_at width addresses))
numbers_covered width [] between new some marked first again = absurd (omega (arith, some))
numbers_covered width (address ∷ others) between new some marked first again =
    let count : length (address ∷ others) - 1 ≡ length others = omega arith in
    let rest : take (length (address ∷ others) - 1) others ≡ others = ap (λ n. take n others) count ∙ take-length others in
    covers_both new (places_of (access_at (size_of width) address)) (touched (accesses_at width others))
    (covers_later between new (places_of (access_at (size_of width) address)) marked first)
    (subst (λ (xs : List ℕ). Covers new (touched (accesses_at width xs))) rest again)

-- ---- pages that take places, one more

pub all_front : {X : Type 0} (P : X → Type 0) (xs : List X) (x : X) → All P (xs ++ x ∷ []) → All P xs
all_front P xs x all = All-same P xs (take (length xs) (xs ++ x ∷ [])) (sym (take_at xs (x ∷ []) (length xs) refl)) (All-take P (length xs) (xs ++ x ∷ []) all)

pub all_last : {X : Type 0} (P : X → Type 0) (xs : List X) (x : X) → All P (xs ++ x ∷ []) → P x
all_last P xs x all =
    let there : length xs < length (xs ++ x ∷ []) = omega (arith, length_push xs x) in
    subst P (get_or_push xs x x (length xs) refl) (All-get_or P (xs ++ x ∷ []) (length xs) x there all)
