-- What a session holds after turns, and after a machine that is put back.
use Rattle.std.proofs.Common.{◌≡◌, ◌∙◌, ◌≤◌, ℕ, Bool, nat_le, refl, sym, ap, subst, arith, List, [], ◌∷◌, length, map, Option}
use Rattle.std.proofs.lemmas.Bool.{and_parts, leb-true}
use Rattle.std.proofs.lemmas.List.{with_items_is}
use Rattle.std.specs.Vec.{with_items}
use Rattle.memory.specs.Access.{most_bytes, most_words}
use Rattle.rv_insn.specs.declared.instructions.Insn.{Insn}
use Rattle.hart_core.specs.HartState.{HartState}
use Rattle.multi_hart.specs.Run.{KeepsShape, State}
use Rattle.multi_hart.proofs.TurnByTurn.{length-opening_harts}
use Rattle.debugger_writes.specs.Pages.{Marks, pages_of}
use Rattle.debugger_writes.specs.Stored.{store_in}
use Rattle.turn_log.specs.TurnLog.{LogState}
use Rattle.loader.specs.Image.{ImageContents, IsImage}
use Rattle.loader.specs.Loading.{machine_of}
use Rattle.debugger.specs.declared.kept.KeptPlaces.{KeptPlaces}
use Rattle.debugger.specs.Places.{SessionState, moved, opened, state_at}
use Rattle.debugger.specs.inner.Held.{Held}
use Rattle.debugger.specs.inner.KeptPlaces.{AreFree, CanPutBack, KeptFits}
use Rattle.debugger.proofs.Keeping.{can-put-back, fits-marked, none-fits, shape-there}

pub shape-held : (session : SessionState) (place : ℕ) (machine : State) → machine ≡ state_at session place
    → KeepsShape (machine_of session.image session.log.harts) machine
shape-held session place machine e = subst (λ (s : State). KeepsShape (machine_of session.image session.log.harts) s) (sym e) (shape-there session.image
    session.log place)

pub as-many-harts : (session : SessionState) (place : ℕ) (machine : State) → machine ≡ state_at session place → length machine.harts ≡ session.log.harts
as-many-harts session place machine e =
    (shape-held session place machine e).harts ∙ length-opening_harts session.image.entry session.log.harts session.log.harts

pub as-many-bytes : (session : SessionState) (place : ℕ) (machine : State) → machine ≡ state_at session place
    → length session.image.bytes ≡ length machine.memory
as-many-bytes session place machine e = sym (shape-held session place machine e).bytes

pub same-text : (session : SessionState) (place : ℕ) (machine : State) → machine ≡ state_at session place → machine.text ≡ session.image.words
same-text session place machine e = (shape-held session place machine e).text

pub can-go-back : (session : SessionState) (place : ℕ) (machine : State) (kept : KeptPlaces) → machine ≡ state_at session place
    → KeptFits session.image session.log kept machine.memory
    → CanPutBack (length machine.memory) (length machine.harts) kept
can-go-back session place machine kept e fits = can-put-back session.image session.log kept machine.memory machine fits (shape-held session place machine e)

-- what is known of the text holds of a machine's
pub text-meant : (session : SessionState) (place : ℕ) (machine : State) (stores : List (Option Insn)) → machine ≡ state_at session place
    → stores ≡ map store_in session.image.words → stores ≡ map store_in machine.text
text-meant session place machine stores e is = is ∙ ap (map store_in) (sym (same-text session place machine e))

pub flags-held : (session : SessionState) (place : ℕ) (machine : State) (kept : KeptPlaces) → machine ≡ state_at session place
    → KeptFits session.image session.log kept machine.memory
    → length kept.written.items ≡ pages_of (length machine.memory)
flags-held session place machine kept e fits = fits.flags ∙ ap pages_of (as-many-bytes session place machine e)

-- the same session at another place, with a machine that is there
pub held-there : (session : SessionState) (machine machine' : State) (first : List HartState) (stores : List (Option Insn)) (kept kept' : KeptPlaces) (place : ℕ)
    → Held session machine first stores kept → machine' ≡ state_at session place → place ≤ length session.log.turns
    → KeptFits session.image session.log kept' machine'.memory
    → Held (moved session place) machine' first stores kept'
held-there session machine machine' first stores kept kept' place held e within fits = record {
  state = e;
  harts = as-many-harts session place machine' e;
  within = within;
  few_marks = held.few_marks;
  opening = held.opening;
  insns = held.insns;
  few_words = held.few_words;
  kept = fits;
}

-- the machine at the start again
pub start-again : (session : SessionState) (machine now : State) (harts first : List HartState)
    → now ≡ record { text = machine.text; memory = session.image.bytes; harts = harts } → machine.text ≡ session.image.words
    → harts ≡ first → first ≡ (state_at session 0).harts → now ≡ state_at session 0
start-again session machine now harts first e text same is =
    e
    ∙ ap (λ (t : List ℕ). record { text = t; memory = session.image.bytes; harts = harts }) text
    ∙ ap (λ (hs : List HartState). record { text = session.image.words; memory = session.image.bytes; harts = hs }) (same ∙ is)

-- after turns that mark what they write
pub held-marked : (session : SessionState) (machine now : State) (first : List HartState) (stores : List (Option Insn)) (kept : KeptPlaces) (place : ℕ)
    (was marks : List Bool) → Held session machine first stores kept
    → was ≡ kept.written.items → Marks machine.memory now.memory was marks → now ≡ state_at session place → place ≤ length session.log.turns
    → Held (moved session place) now first stores (record { below = kept.below; places = kept.places; written = with_items kept.written marks })
held-marked session machine now first stores kept place was marks held was-is marked state within =
    let new : KeptPlaces = record { below = kept.below; places = kept.places; written = with_items kept.written marks } in
    let long : length marks ≡ length kept.written.items = marked.flags ∙ ap (λ (xs : List Bool). length xs) was-is in
    let put : new.written.items ≡ marks = with_items_is kept.written marks (long ∙ sym kept.written.ok.0) in
    let from : Marks machine.memory now.memory kept.written.items marks = subst (λ (xs : List Bool). Marks machine.memory now.memory xs marks) was-is marked in
    let all : Marks machine.memory now.memory kept.written.items new.written.items = subst (λ (xs : List Bool). Marks machine.memory now.memory
    kept.written.items xs) (sym put) from in
    held-there session machine now first stores kept new place held state within (fits-marked session.image session.log kept new machine.memory now.memory refl
    refl held.kept all)

-- where one more place is kept
pub held-kept : (session : SessionState) (machine : State) (first : List HartState) (stores : List (Option Insn)) (kept new : KeptPlaces)
    → Held session machine first stores kept
    → KeptFits session.image session.log new machine.memory → Held session machine first stores new
held-kept session machine first stores kept new held fits = record {
  state = held.state;
  harts = held.harts;
  within = held.within;
  few_marks = held.few_marks;
  opening = held.opening;
  insns = held.insns;
  few_words = held.few_words;
  kept = fits;
}

-- ---- a session that is opened

few-words : (image : ImageContents) → IsImage image → length image.words ≤ most_words
few-words image is = leb-true (length image.words) most_words (and_parts (nat_le (length image.words) most_words) (nat_le (length image.bytes) most_bytes)
    is.limits).0

length-map-stores : (words : List ℕ) → length (map store_in words) ≡ length words
length-map-stores [] = refl
length-map-stores (word ∷ words) = let rest = length-map-stores words in omega (arith, rest)

pub held-at-start : (image : ImageContents) (log : LogState) (machine : State) (first : List HartState) (stores : List (Option Insn)) (kept : KeptPlaces)
    → IsImage image → machine ≡ machine_of image log.harts
    → first ≡ machine.harts → stores ≡ map store_in image.words → AreFree (pages_of (length image.bytes)) kept
    → Held (opened image log) machine first stores kept
held-at-start image log machine first stores kept is state opening insns free =
    let session : SessionState = opened image log in
    let words = few-words image is in
    let as-many : length stores ≡ length image.words = ap (λ (xs : List (Option Insn)). length xs) insns ∙ length-map-stores image.words in
    record {
      state = state;
      harts = as-many-harts session 0 machine state;
      within = omega arith;
      few_marks = omega arith;
      opening = opening ∙ ap (λ (s : State). s.harts) state;
      insns = insns;
      few_words = omega (arith, words, as-many);
      kept = subst (λ (m : List ℕ). KeptFits image log kept m) (sym (ap (λ (s : State). s.memory) state)) (none-fits image log kept free);
    }
