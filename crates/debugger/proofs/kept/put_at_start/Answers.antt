use Rattle.std.proofs.Common.{◌≡◌, ◌∙◌, ◌/◌, ℕ, false, Bool, List, Option, length, refl, sym, ap, subst}
use Rattle.std.proofs.lemmas.List.{with_items_is}
use Rattle.std.specs.Vec.{with_items}
use Rattle.multi_hart.specs.Run.{State}
use Rattle.debugger_writes.specs.declared.pages.PageCopy.{PageCopy}
use Rattle.debugger_writes.specs.Pages.{Marked, is_written, lowest}
use Rattle.debugger.specs.declared.kept.KeptPlaces.{KeptPlaces}
use Rattle.debugger.specs.declared.kept.KeptPlace.{KeptPlace}
use Rattle.debugger.specs.inner.KeptPlaces.{KeptFits, last_of}
use Rattle.debugger.proofs.Keeping.{fits-start}
use Rattle.debugger.proofs.kept.put_at_start.Goals as goal

pub returns-clause-fits : goal.returns-clause-fits
returns-clause-fits c = λ log memory fits.
    let image = c.args.image.now in
    let kept = c.args.kept.now in
    let filled = c.fill.new.self in
    let once = with_items filled c.mark_below.new.written in
    let twice = with_items once c.mark_behind.new.written in
    let new : KeptPlaces = record { below = kept.below; places = kept.places; written = twice } in
    let first-long : length c.mark_below.new.written ≡ length filled.items = c.mark_below.ensures.marked.flags
    ∙ ap (λ (xs : List Bool). length xs) c.deref_mut.ensures.value in
    let first : once.items ≡ c.mark_below.new.written = with_items_is filled c.mark_below.new.written (first-long ∙ sym filled.ok.0) in
    let next : c.deref_mut-2.result.now ≡ c.mark_below.new.written = c.deref_mut-2.ensures.value ∙ first in
    let marked : Marked c.mark_below.new.written c.mark_behind.new.written = subst (λ (xs : List Bool). Marked xs c.mark_behind.new.written) next
    c.mark_behind.ensures.marked in
    let second : twice.items ≡ c.mark_behind.new.written = with_items_is once c.mark_behind.new.written (marked.flags ∙ first-long ∙ sym filled.ok.0) in
    let flags : length new.written.items ≡ length kept.written.items = ap (λ (xs : List Bool). length xs) second ∙ marked.flags ∙ first-long ∙ sym filled.ok.0
    ∙ c.fill.ensures.len ∙ kept.written.ok.0 in
    let here : c.set_harts.new.self.memory ≡ image.bytes = ap (λ (s : State). s.memory) c.set_harts.ensures ∙ ap (λ (s : State). s.memory) c.set_data.ensures
    ∙ c.data.ensures.value in
    let unmarked : (i : ℕ) → is_written new.written.items (i / 4096) ≡ false → is_written c.mark_behind.new.written (i / 4096) ≡ false =
    λ i isnt. ap (λ (xs : List Bool). is_written xs (i / 4096)) (sym second) ∙ isnt in
    let below : (f : ℕ → ℕ) (i : ℕ) → is_written new.written.items (i / 4096) ≡ false → lowest kept.below.items f i ≡ f i =
    λ f i isnt. ap (λ (xs : List (Option PageCopy)). lowest xs f i) (sym c.deref.ensures.value)
    ∙ c.mark_below.ensures.others f i (marked.stay (i / 4096) (unmarked i isnt)) in
    let behind : (f : ℕ → ℕ) (i : ℕ) → is_written new.written.items (i / 4096) ≡ false → last_of f kept.places.items i ≡ f i =
    λ f i isnt. ap (λ (cs : List KeptPlace). last_of f cs i) (sym c.deref-2.ensures.value) ∙ c.mark_behind.ensures.others f i (unmarked i isnt) in
    subst (λ (m : List ℕ). KeptFits image log new m) (sym here) (fits-start image log kept new memory fits refl refl flags below behind)
