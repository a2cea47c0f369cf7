-- Kept places, whichever are let go and wherever a machine is put back to.
use Rattle.std.proofs.Common.{◌≡◌, ◌∙◌, ◌+◌, ◌/◌, ◌%◌, ◌<◌, ◌≤◌, ℕ, zero, suc, Bool, false, refl, sym, ap, subst, arith, List, [], ◌∷◌, ◌++◌, length, take, All}
use Rattle.std.proofs.Common.{Option, Some, None, remove}
use Rattle.std.specs.Prelude.{option_map, slice_get, slice_index, slice_index_or}
use Rattle.std.proofs.lemmas.List.{ext_get_or}
use Rattle.std.proofs.lemmas.List.Elements.{All-cons, All-nil, All-weaker}
use Rattle.hart_core.specs.HartState.{HartState}
use Rattle.multi_hart.specs.Run.{KeepsShape, State, run}
use Rattle.multi_hart.specs.Parts.{with_data, with_harts}
use Rattle.multi_hart.proofs.TurnByTurn.{shape-run}
use Rattle.turn_log.specs.TurnLog.{LogState}
use Rattle.loader.specs.Image.{ImageContents}
use Rattle.loader.specs.Loading.{machine_of}
use Rattle.debugger_writes.specs.declared.pages.PageCopy.{PageCopy}
use Rattle.debugger_writes.specs.Pages.{AreBelow, Holds, IsPage, Marks, found, is_written, lowest, over, pages_of, slot_at}
use Rattle.debugger_writes.proofs.Laying.{holds_same, over_congruent}
use Rattle.debugger_writes.proofs.Marking.{marks_none}
use Rattle.debugger.specs.declared.kept.KeptPlaces.{KeptPlaces}
use Rattle.debugger.specs.declared.kept.KeptPlace.{KeptPlace}
use Rattle.debugger.specs.inner.KeptPlaces.{AreFree, AreKept, ArePages, CanPutBack, IsCopy, IsKept, KeptFits, first_of, last_kept, last_of}

-- the state at a place, which depends on the image and on the log alone
abbrev pub there : ImageContents → LogState → ℕ → State
there image log place = run (machine_of image log.harts) (take place log.turns)

pub shape-there : (image : ImageContents) (log : LogState) (place : ℕ) → KeepsShape (machine_of image log.harts) (there image log place)
shape-there image log place = shape-run (machine_of image log.harts) (take place log.turns)

-- data that hold the same bytes are the same
pub same_bytes : (a b : List ℕ) (f : ℕ → ℕ) → length a ≡ length b → Holds a f → Holds b f → a ≡ b
same_bytes a b f size first second = ext_get_or 0 a b size (λ i below. first.each i below ∙ sym (second.each i (omega (arith, size, below))))

-- ---- places over what data held before the first

last-same : (f g : ℕ → ℕ) (copies : List KeptPlace) → ((i : ℕ) → f i ≡ g i) → (i : ℕ) → last_of f copies i ≡ last_of g copies i
last-same f g [] same i = same i
last-same f g (copy ∷ copies) same i = last-same (over copy.pages.items f) (over copy.pages.items g) copies (over_congruent copy.pages.items f g same) i

kept-same : (image : ImageContents) (log : LogState) (f g : ℕ → ℕ) (copies : List KeptPlace) → ((i : ℕ) → f i ≡ g i) → AreKept image log f copies
    → AreKept image log g copies
kept-same image log f g [] same are = tt
kept-same image log f g (copy ∷ copies) same are = (
  record {
    within = are.0.within;
    every = are.0.every;
    pages = are.0.pages;
    harts = are.0.harts;
    holds = holds_same _ (over copy.pages.items f) (over copy.pages.items g) (over_congruent copy.pages.items f g same) are.0.holds;
  },
  kept-same image log (over copy.pages.items f) (over copy.pages.items g) copies (over_congruent copy.pages.items f g same) are.1,
)

last-push : (f : ℕ → ℕ) (copies : List KeptPlace) (copy : KeptPlace) (i : ℕ) → last_of f (copies ++ copy ∷ []) i ≡ over copy.pages.items (last_of f copies) i
last-push f [] copy i = refl
last-push f (first ∷ copies) copy i = last-push (over first.pages.items f) copies copy i

kept-push : (image : ImageContents) (log : LogState) (f : ℕ → ℕ) (copies : List KeptPlace) (copy : KeptPlace) → AreKept image log f copies
    → IsKept image log (last_of f copies) copy → AreKept image log f (copies ++ copy ∷ [])
kept-push image log f [] copy are is = (is, tt)
kept-push image log f (first ∷ copies) copy are is = (are.0, kept-push image log (over first.pages.items f) copies copy are.1 is)

-- ---- one place more

pub one-more : (image : ImageContents) (log : LogState) (kept new : KeptPlaces) (copy : KeptPlace) (memory : List ℕ) → new.below.items ≡ kept.below.items
    → new.places.items ≡ kept.places.items ++ copy ∷ [] → length new.written.items ≡ length kept.written.items
    → KeptFits image log kept memory → IsKept image log (last_kept image kept) copy → memory ≡ (there image log copy.place).memory
    → KeptFits image log new memory
one-more image log kept new copy memory same more flags fits is here = record {
  slots = ap (λ (xs : List (Option PageCopy)). length xs) same ∙ fits.slots;
  flags = flags ∙ fits.flags;
  below = subst (λ (xs : List (Option PageCopy)). AreBelow (length image.bytes) xs) (sym same) fits.below;
  places = subst (λ (xs : List (Option PageCopy)). AreKept image log (lowest xs (slice_index image.bytes)) new.places.items) (sym same)
      (subst (λ (cs : List KeptPlace). AreKept image log (first_of image kept) cs) (sym more) (kept-push image log (first_of image kept) kept.places.items copy
      fits.places is));
  last = record {
    each = λ i below isnt.
        let holds = subst (λ (m : List ℕ). Holds m (over copy.pages.items (last_kept image kept))) (sym here) is.holds in
        holds.each i below
        ∙ sym (last-push (first_of image kept) kept.places.items copy i)
        ∙ ap (λ (cs : List KeptPlace). last_of (first_of image kept) cs i) (sym more)
        ∙ ap (λ (xs : List (Option PageCopy)). last_of (lowest xs (slice_index image.bytes)) new.places.items i) (sym same);
  };
}

-- the last place of those that are kept in another way
pub still-kept : (image : ImageContents) (log : LogState) (f g : ℕ → ℕ) (copy : KeptPlace) → ((i : ℕ) → f i ≡ g i) → IsKept image log f copy
    → IsKept image log g copy
still-kept image log f g copy same is = record {
  within = is.within;
  every = is.every;
  pages = is.pages;
  harts = is.harts;
  holds = holds_same _ (over copy.pages.items f) (over copy.pages.items g) (over_congruent copy.pages.items f g same) is.holds;
}

-- ---- the first place, let go

abbrev pub Settled : List (Option PageCopy) → List (Option PageCopy) → KeptPlace → Type 0
Settled below new first = (f : ℕ → ℕ) (i : ℕ) → lowest new f i ≡ over first.pages.items (lowest below f) i

last-let-go : (image : ImageContents) (below new : List (Option PageCopy)) (first : KeptPlace) (others : List KeptPlace) → Settled below new first → (i : ℕ)
    → last_of (lowest below (slice_index image.bytes)) (first ∷ others) i ≡ last_of (lowest new (slice_index image.bytes)) others i
last-let-go image below new first others settled i =
    sym (last-same (lowest new (slice_index image.bytes)) (over first.pages.items (lowest below (slice_index image.bytes))) others
    (settled (slice_index image.bytes)) i)

kept-let-go : (image : ImageContents) (log : LogState) (below new : List (Option PageCopy)) (first : KeptPlace) (others : List KeptPlace)
    → Settled below new first
    → AreKept image log (lowest below (slice_index image.bytes)) (first ∷ others) → AreKept image log (lowest new (slice_index image.bytes)) others
kept-let-go image log below new first others settled are =
    kept-same image log (over first.pages.items (lowest below (slice_index image.bytes))) (lowest new (slice_index image.bytes)) others
    (λ i. sym (settled (slice_index image.bytes) i)) are.1

pub gone-last : (image : ImageContents) (kept new : KeptPlaces) (first : KeptPlace) (others : List KeptPlace) → kept.places.items ≡ first ∷ others
    → new.places.items ≡ others
    → Settled kept.below.items new.below.items first → (i : ℕ) → last_kept image kept i ≡ last_kept image new i
gone-last image kept new first others is rest settled i =
    ap (λ (cs : List KeptPlace). last_of (first_of image kept) cs i) is
    ∙ last-let-go image kept.below.items new.below.items first others settled i
    ∙ ap (λ (cs : List KeptPlace). last_of (first_of image new) cs i) (sym rest)

pub gone-fits : (image : ImageContents) (log : LogState) (kept new : KeptPlaces) (first : KeptPlace) (others : List KeptPlace) (memory : List ℕ)
    → kept.places.items ≡ first ∷ others → new.places.items ≡ others
    → new.written.items ≡ kept.written.items → length new.below.items ≡ length kept.below.items → Settled kept.below.items new.below.items first
    → (AreBelow (length image.bytes) kept.below.items → ArePages (length image.bytes) first → AreBelow (length image.bytes) new.below.items)
    → KeptFits image log kept memory → KeptFits image log new memory
gone-fits image log kept new first others memory is rest flags slots settled pages fits =
    let are : AreKept image log (first_of image kept) (first ∷ others) = subst (λ (cs : List KeptPlace). AreKept image log (first_of image kept) cs) is
    fits.places in
    record {
      slots = slots ∙ fits.slots;
      flags = ap (λ (xs : List Bool). length xs) flags ∙ fits.flags;
      below = pages fits.below are.0.pages;
      places = subst (λ (cs : List KeptPlace). AreKept image log (first_of image new) cs) (sym rest) (kept-let-go image log kept.below.items new.below.items
          first others settled are);
      last = record {
        each = λ i below isnt.
            fits.last.each i below (ap (λ (xs : List Bool). is_written xs (i / 4096)) (sym flags) ∙ isnt)
            ∙ gone-last image kept new first others is rest settled i;
      };
    }

-- the pages of the first place have places of their own
pub first-below : (image : ImageContents) (log : LogState) (kept : KeptPlaces) (first : KeptPlace) (others : List KeptPlace) (memory : List ℕ)
    → kept.places.items ≡ first ∷ others → KeptFits image log kept memory
    → All (λ (page : PageCopy). page.number < length kept.below.items) first.pages.items
first-below image log kept first others memory is fits =
    let are : AreKept image log (first_of image kept) (first ∷ others) = subst (λ (cs : List KeptPlace). AreKept image log (first_of image kept) cs) is
    fits.places in
    All-weaker (IsPage (length image.bytes)) (λ (page : PageCopy). page.number < length kept.below.items) (λ page p. (let at = p.there in let slots =
    fits.slots in omega (arith, at, slots))) first.pages.items are.0.pages

-- ---- a machine that is put back

kept-at : (image : ImageContents) (log : LogState) (f : ℕ → ℕ) (copies : List KeptPlace) (at : ℕ) (copy : KeptPlace) → AreKept image log f copies
    → slice_get copies at ≡ Some copy
    → IsKept image log (last_of f (take at copies)) copy × Holds (there image log copy.place).memory (last_of f (take (suc at) copies))
kept-at image log f [] at copy are is = absurd cc
kept-at image log f (first ∷ copies) zero copy are is =
    let same : first ≡ copy = cc in (
      subst (λ (c : KeptPlace). IsKept image log f c) same are.0,
      subst (λ (c : KeptPlace). Holds (there image log c.place).memory (over first.pages.items f))
          same are.0.holds,
    )
kept-at image log f (first ∷ copies) (suc at) copy are is = kept-at image log (over first.pages.items f) copies at copy are.1 is

get-place : (copies : List KeptPlace) (at place : ℕ) → option_map (λ (c : KeptPlace). c.place) (slice_get copies at) ≡ Some place
    → (copy : KeptPlace) × (slice_get copies at ≡ Some copy) × (copy.place ≡ place)
get-place copies at place is = go (slice_get copies at) refl is
  where
    go : (o : Option KeptPlace) → slice_get copies at ≡ o → option_map (λ (c : KeptPlace). c.place) o ≡ Some place
        → (copy : KeptPlace) × (slice_get copies at ≡ Some copy) × (copy.place ≡ place)
    go None e isnt = absurd cc
    go (Some copy) e same = (copy, e, cc)

pub put-there : (image : ImageContents) (log : LogState) (kept : KeptPlaces) (at place : ℕ) (memory new : List ℕ) (harts : List HartState)
    → KeptFits image log kept memory
    → option_map (λ (c : KeptPlace). c.place) (slice_get kept.places.items at) ≡ Some place → length new ≡ length image.bytes
    → Holds new (last_of (first_of image kept) (take (at + 1) kept.places.items))
    → ((copy : KeptPlace) → slice_get kept.places.items at ≡ Some copy → harts ≡ copy.harts.items)
    → record { text = image.words; memory = new; harts = harts } ≡ there image log place
put-there image log kept at place memory new harts fits is size holds own =
    let found = get-place kept.places.items at place is in
    let copy : KeptPlace = found.0 in
    let got : slice_get kept.places.items at ≡ Some copy = found.1 in
    let named : copy.place ≡ place = found.2 in
    let both = kept-at image log (first_of image kept) kept.places.items at copy fits.places got in
    let state : State = there image log place in
    let shape = shape-there image log place in
    let next : suc at ≡ at + 1 = omega arith in
    let held : Holds state.memory (last_of (first_of image kept) (take (at + 1) kept.places.items)) =
    subst (λ (p : ℕ). Holds (there image log p).memory (last_of (first_of image kept) (take (at + 1) kept.places.items))) named
    (subst (λ (n : ℕ). Holds (there image log copy.place).memory (last_of (first_of image kept) (take n kept.places.items))) next both.1) in
    let same_memory : new ≡ state.memory = same_bytes new state.memory _ (size ∙ sym shape.bytes) holds held in
    let same_harts : harts ≡ state.harts = own copy got ∙ both.0.harts ∙ ap (λ (p : ℕ). (there image log p).harts) named in
    ap (λ (m : List ℕ). record { text = image.words; memory = m; harts = harts }) same_memory
    ∙ ap (λ (hs : List HartState). record { text = image.words; memory = state.memory; harts = hs }) same_harts
    ∙ ap (λ (t : List ℕ). record { text = t; memory = state.memory; harts = state.harts }) (sym shape.text)

-- pages that aren't marked after it are as at the last place
pub fits-back : (image : ImageContents) (log : LogState) (kept new : KeptPlaces) (count : ℕ) (memory memory' : List ℕ) → KeptFits image log kept memory
    → new.below.items ≡ kept.below.items → new.places.items ≡ kept.places.items
    → length new.written.items ≡ length kept.written.items → Holds memory' (last_of (first_of image kept) (take count kept.places.items))
    → ((f : ℕ → ℕ) (i : ℕ) → is_written new.written.items (i / 4096) ≡ false → last_of f kept.places.items i ≡ last_of f (take count kept.places.items) i)
    → KeptFits image log new memory'
fits-back image log kept new count memory memory' fits same places flags holds unmarked = record {
  slots = ap (λ (xs : List (Option PageCopy)). length xs) same ∙ fits.slots;
  flags = flags ∙ fits.flags;
  below = subst (λ (xs : List (Option PageCopy)). AreBelow (length image.bytes) xs) (sym same) fits.below;
  places = subst (λ (xs : List (Option PageCopy)). AreKept image log (lowest xs (slice_index image.bytes)) new.places.items) (sym same)
      (subst (λ (cs : List KeptPlace). AreKept image log (first_of image kept) cs) (sym places) fits.places);
  last = record {
    each = λ i below isnt.
        holds.each i below
        ∙ sym (unmarked (first_of image kept) i isnt)
        ∙ ap (λ (cs : List KeptPlace). last_of (first_of image kept) cs i) (sym places)
        ∙ ap (λ (xs : List (Option PageCopy)). last_of (lowest xs (slice_index image.bytes)) new.places.items i) (sym same);
  };
}

-- and at the start, where neither are those that were let go
pub fits-start : (image : ImageContents) (log : LogState) (kept new : KeptPlaces) (memory : List ℕ) → KeptFits image log kept memory
    → new.below.items ≡ kept.below.items → new.places.items ≡ kept.places.items
    → length new.written.items ≡ length kept.written.items
    → ((f : ℕ → ℕ) (i : ℕ) → is_written new.written.items (i / 4096) ≡ false → lowest kept.below.items f i ≡ f i)
    → ((f : ℕ → ℕ) (i : ℕ) → is_written new.written.items (i / 4096) ≡ false → last_of f kept.places.items i ≡ f i)
    → KeptFits image log new image.bytes
fits-start image log kept new memory fits same places flags below behind = record {
  slots = ap (λ (xs : List (Option PageCopy)). length xs) same ∙ fits.slots;
  flags = flags ∙ fits.flags;
  below = subst (λ (xs : List (Option PageCopy)). AreBelow (length image.bytes) xs) (sym same) fits.below;
  places = subst (λ (xs : List (Option PageCopy)). AreKept image log (lowest xs (slice_index image.bytes)) new.places.items) (sym same)
      (subst (λ (cs : List KeptPlace). AreKept image log (first_of image kept) cs) (sym places) fits.places);
  last = record {
    each = λ i within isnt.
        sym (below (slice_index image.bytes) i isnt)
        ∙ sym (behind (first_of image kept) i isnt)
        ∙ ap (λ (cs : List KeptPlace). last_of (first_of image kept) cs i) (sym places)
        ∙ ap (λ (xs : List (Option PageCopy)). last_of (lowest xs (slice_index image.bytes)) new.places.items i) (sym same);
  };
}

-- what is asked of a machine that is at a place
pub can-put-back : (image : ImageContents) (log : LogState) (kept : KeptPlaces) (memory : List ℕ) (machine : State) → KeptFits image log kept memory
    → KeepsShape (machine_of image log.harts) machine → CanPutBack (length machine.memory) (length machine.harts) kept
can-put-back image log kept memory machine fits shape = record {
  below = subst (λ (n : ℕ). AreBelow n kept.below.items) (sym shape.bytes) fits.below;
  pages = subst (λ (n : ℕ). All (ArePages n) kept.places.items) (sym shape.bytes) (all-pages (first_of image kept) kept.places.items fits.places);
  harts = subst (λ (n : ℕ). All (λ (copy : KeptPlace). length copy.harts.items ≡ n) kept.places.items) (sym shape.harts) (all-harts (first_of image kept)
      kept.places.items fits.places);
}
  where
    all-pages : (f : ℕ → ℕ) (copies : List KeptPlace) → AreKept image log f copies → All (ArePages (length image.bytes)) copies
    all-pages f [] are = All-nil (ArePages (length image.bytes))
    all-pages f (copy ∷ copies) are = All-cons (ArePages (length image.bytes)) copy copies are.0.pages (all-pages (over copy.pages.items f) copies are.1)

    all-harts : (f : ℕ → ℕ) (copies : List KeptPlace) → AreKept image log f copies
        → All (λ (copy : KeptPlace). length copy.harts.items ≡ length (machine_of image log.harts).harts) copies
    all-harts f [] are = All-nil (λ (c : KeptPlace). length c.harts.items ≡ length (machine_of image log.harts).harts)
    all-harts f (copy ∷ copies) are = All-cons (λ (c : KeptPlace). length c.harts.items ≡ length (machine_of image log.harts).harts) copy copies
        (ap (λ (hs : List HartState). length hs) are.0.harts ∙ (shape-there image log copy.place).harts) (all-harts (over copy.pages.items f) copies are.1)

-- ---- turns

pub fits-marked : (image : ImageContents) (log : LogState) (kept new : KeptPlaces) (memory memory' : List ℕ) → new.below.items ≡ kept.below.items
    → new.places.items ≡ kept.places.items
    → KeptFits image log kept memory → Marks memory memory' kept.written.items new.written.items → KeptFits image log new memory'
fits-marked image log kept new memory memory' same places fits marks = record {
  slots = ap (λ (xs : List (Option PageCopy)). length xs) same ∙ fits.slots;
  flags = marks.flags ∙ fits.flags;
  below = subst (λ (xs : List (Option PageCopy)). AreBelow (length image.bytes) xs) (sym same) fits.below;
  places = subst (λ (xs : List (Option PageCopy)). AreKept image log (lowest xs (slice_index image.bytes)) new.places.items) (sym same)
      (subst (λ (cs : List KeptPlace). AreKept image log (first_of image kept) cs) (sym places) fits.places);
  last = record {
    each = λ i below isnt.
        let size = marks.as_many in
        marks.kept i (omega (arith, size, below)) isnt
        ∙ fits.last.each i (omega (arith, size, below)) (marks.stay (i / 4096) isnt)
        ∙ ap (λ (cs : List KeptPlace). last_of (first_of image kept) cs i) (sym places)
        ∙ ap (λ (xs : List (Option PageCopy)). last_of (lowest xs (slice_index image.bytes)) new.places.items i) (sym same);
  };
}

-- ---- what is kept of a machine that is at a place

pub copy-kept : (image : ImageContents) (log : LogState) (kept : KeptPlaces) (place : ℕ) (machine : State) (copy : KeptPlace) → KeptFits image log kept machine.memory
    → machine ≡ there image log place → place ≤ length log.turns
    → place % 4096 ≡ 0 → IsCopy place machine kept.written.items copy → IsKept image log (last_kept image kept) copy
copy-kept image log kept place machine copy fits here within every is =
    let at : there image log place ≡ there image log copy.place = ap (there image log) (sym is.place_is) in
    let state : machine ≡ there image log copy.place = here ∙ at in
    let shape = shape-there image log copy.place in
    record {
      within = subst (λ (p : ℕ). p ≤ length log.turns) (sym is.place_is) within;
      every = subst (λ (p : ℕ). p % 4096 ≡ 0) (sym is.place_is) every;
      pages = subst (λ (n : ℕ). ArePages n copy) (ap (λ (s : State). length s.memory) state ∙ shape.bytes) is.pages;
      harts = is.harts ∙ ap (λ (s : State). s.harts) state;
      holds = subst (λ (s : State). Holds s.memory (over copy.pages.items (last_kept image kept))) state (is.holds (last_kept image kept) fits.last);
    }

-- ---- none is kept

pub none-more : (below : List (Option PageCopy)) → ((n : ℕ) → slot_at below n ≡ None) → (n : ℕ) → slot_at (below ++ None ∷ []) n ≡ None
none-more [] empty zero = refl
none-more [] empty (suc n) = refl
none-more (slot ∷ below) empty zero = empty 0
none-more (slot ∷ below) empty (suc n) = none-more below (λ k. empty (suc k)) n

-- the first place and those after it
pub first-and-rest : (places : List KeptPlace) (first : KeptPlace) → 1 ≤ length places → first ≡ slice_index_or places 0 first
    → places ≡ first ∷ remove places 0
first-and-rest [] first some is = absurd (omega (arith, some))
first-and-rest (place ∷ places) first some is = ap (λ (p : KeptPlace). p ∷ places) (sym is)

pub none-fits : (image : ImageContents) (log : LogState) (kept : KeptPlaces) → AreFree (pages_of (length image.bytes)) kept → KeptFits image log kept image.bytes
none-fits image log kept free = record {
  slots = free.slots;
  flags = free.flags;
  below = record { number = λ n copy is. (let none = free.empty n in absurd cc); page = λ n copy is. (let none = free.empty n in absurd cc) };
  places = subst (λ (cs : List KeptPlace). AreKept image log (first_of image kept) cs) (sym free.none) tt;
  last = record {
    each = λ i within isnt.
        sym (ap (λ (o : Option PageCopy). found o i (slice_index image.bytes i)) (free.empty (i / 4096)))
        ∙ ap (λ (cs : List KeptPlace). last_of (first_of image kept) cs i) (sym free.none);
  };
}

-- ---- what calls leave of the kept places

-- the same places and pages as before
pub same-fits : (image : ImageContents) (log : LogState) (kept new : KeptPlaces) (memory : List ℕ) → new.below.items ≡ kept.below.items
    → new.places.items ≡ kept.places.items → new.written.items ≡ kept.written.items
    → KeptFits image log kept memory → KeptFits image log new memory
same-fits image log kept new memory same places flags fits =
    fits-marked image log kept new memory memory same places fits
    (subst (λ (xs : List Bool). Marks memory memory kept.written.items xs) (sym flags) (marks_none memory kept.written.items))

-- the first place is taken out, and its pages settle in the list of those that were let go
pub let-go : (image : ImageContents) (log : LogState) (kept new : KeptPlaces) (first : KeptPlace) (was now : List (Option PageCopy)) (memory : List ℕ)
    → kept.places.items ≡ first ∷ remove kept.places.items 0 → new.places.items ≡ remove kept.places.items 0 → new.written.items ≡ kept.written.items
    → was ≡ kept.below.items → new.below.items ≡ now → length now ≡ length was
    → ((size : ℕ) → AreBelow size was → All (IsPage size) first.pages.items → AreBelow size now)
    → (All (λ (page : PageCopy). page.number < length was) first.pages.items → (f : ℕ → ℕ) (i : ℕ) → lowest now f i ≡ over first.pages.items (lowest was f) i)
    → KeptFits image log kept memory → KeptFits image log new memory × ((i : ℕ) → last_kept image kept i ≡ last_kept image new i)
let-go image log kept new first was now memory is rest flags was-is now-is slots pages settles fits =
    let others : List KeptPlace = remove kept.places.items 0 in
    let there = first-below image log kept first others memory is fits in
    let settled : Settled kept.below.items new.below.items first =
    subst (λ (xs : List (Option PageCopy)). Settled kept.below.items xs first) (sym now-is)
    (subst (λ (xs : List (Option PageCopy)). Settled xs now first) was-is
    (settles (subst (λ (xs : List (Option PageCopy)). All (λ (page : PageCopy). page.number < length xs) first.pages.items) (sym was-is) there))) in
    let below : AreBelow (length image.bytes) kept.below.items → ArePages (length image.bytes) first → AreBelow (length image.bytes) new.below.items =
    λ are own. subst (λ (xs : List (Option PageCopy)). AreBelow (length image.bytes) xs) (sym now-is) (pages (length image.bytes)
    (subst (λ (xs : List (Option PageCopy)). AreBelow (length image.bytes) xs) (sym was-is) are) own) in
    let as-many : length new.below.items ≡ length kept.below.items = ap (λ (xs : List (Option PageCopy)). length xs) now-is ∙ slots
    ∙ ap (λ (xs : List (Option PageCopy)). length xs) was-is in
    (gone-fits image log kept new first others memory is rest flags as-many settled below fits, gone-last image kept new first others is rest settled)

-- ---- what calls put back of a machine

get-there : (copies : List KeptPlace) (at : ℕ) → at < length copies → (copy : KeptPlace) × (slice_get copies at ≡ Some copy)
get-there [] at below = absurd (omega (arith, below))
get-there (first ∷ copies) zero below = (first, refl)
get-there (first ∷ copies) (suc at) below = get-there copies at (omega (arith, below))

-- data of the image under the pages that were let go, and those of this many places over them
pub put-held : (image : ImageContents) (kept : KeptPlaces) (count : ℕ) (bytes : List ℕ) (below : List (Option PageCopy)) (places : List KeptPlace)
    (old one two three : State)
    → bytes ≡ image.bytes → one ≡ with_data old bytes → below ≡ kept.below.items → places ≡ kept.places.items
    → ((f : ℕ → ℕ) → Holds one.memory f → Holds two.memory (lowest below f)) → ((f : ℕ → ℕ) → Holds two.memory f
    → Holds three.memory (last_of f (take count places)))
    → Holds three.memory (last_of (first_of image kept) (take count kept.places.items))
put-held image kept count bytes below places old one two three same first below-is places-is second third =
    let memory : one.memory ≡ image.bytes = ap (λ (s : State). s.memory) first ∙ same in
    let begin : Holds one.memory (slice_index image.bytes) = subst (λ (m : List ℕ). Holds m (slice_index image.bytes)) (sym memory)
    (record { each = λ i inside. refl }) in
    subst (λ (cs : List KeptPlace). Holds three.memory (last_of (first_of image kept) (take count cs))) places-is
    (subst (λ (xs : List (Option PageCopy)). Holds three.memory (last_of (lowest xs (slice_index image.bytes)) (take count places))) below-is
    (third (lowest below (slice_index image.bytes)) (second (slice_index image.bytes) begin)))

-- and harts of the last of them
pub put-state : (image : ImageContents) (log : LogState) (kept : KeptPlaces) (at place : ℕ) (memory bytes : List ℕ) (old one two three four : State)
    → KeptFits image log kept memory
    → option_map (λ (c : KeptPlace). c.place) (slice_get kept.places.items at) ≡ Some place → old.text ≡ image.words → bytes ≡ image.bytes
    → one ≡ with_data old bytes → two ≡ with_data one two.memory → length two.memory ≡ length one.memory → three ≡ with_data two three.memory
    → length three.memory ≡ length two.memory
    → Holds three.memory (last_of (first_of image kept) (take (at + 1) kept.places.items))
    → ((copy : KeptPlace) → slice_get kept.places.items at ≡ Some copy → four ≡ with_harts three copy.harts.items)
    → four ≡ there image log place
put-state image log kept at place memory bytes old one two three four fits is text bytes-is first second second-size third third-size holds own =
    let found = get-place kept.places.items at place is in
    let last : four ≡ with_harts three found.0.harts.items = own found.0 found.1 in
    let words : three.text ≡ image.words = ap (λ (s : State). s.text) third ∙ ap (λ (s : State). s.text) second ∙ ap (λ (s : State). s.text) first ∙ text in
    let size : length three.memory ≡ length image.bytes = third-size ∙ second-size ∙ ap (λ (s : State). length s.memory) first
    ∙ ap (λ (m : List ℕ). length m) bytes-is in
    last
    ∙ ap (λ (t : List ℕ). record { text = t; memory = three.memory; harts = found.0.harts.items }) words
    ∙ put-there image log kept at place memory three.memory found.0.harts.items fits is size holds (λ copy got. sym (ap (λ (s : State). s.harts) last)
    ∙ ap (λ (s : State). s.harts) (own copy got))

pub put-memory : (kept : KeptPlaces) (at : ℕ) (three four : State) → at < length kept.places.items → ((copy : KeptPlace) → slice_get kept.places.items at ≡ Some copy
    → four ≡ with_harts three copy.harts.items) → four.memory ≡ three.memory
put-memory kept at three four below own =
    let found = get-there kept.places.items at below in
    ap (λ (s : State). s.memory) (own found.0 found.1)

pub kept-within : (image : ImageContents) (log : LogState) (kept : KeptPlaces) (at place : ℕ) (memory : List ℕ) → KeptFits image log kept memory
    → option_map (λ (c : KeptPlace). c.place) (slice_get kept.places.items at) ≡ Some place → place ≤ length log.turns
kept-within image log kept at place memory fits is =
    let found = get-place kept.places.items at place is in
    let both = kept-at image log (first_of image kept) kept.places.items at found.0 fits.places found.1 in
    subst (λ (p : ℕ). p ≤ length log.turns) found.2 both.0.within

pub kept-every : (image : ImageContents) (log : LogState) (kept : KeptPlaces) (at place : ℕ) (memory : List ℕ) → KeptFits image log kept memory
    → option_map (λ (c : KeptPlace). c.place) (slice_get kept.places.items at) ≡ Some place → place % 4096 ≡ 0
kept-every image log kept at place memory fits is =
    let found = get-place kept.places.items at place is in
    let both = kept-at image log (first_of image kept) kept.places.items at found.0 fits.places found.1 in
    subst (λ (p : ℕ). p % 4096 ≡ 0) found.2 both.0.every
