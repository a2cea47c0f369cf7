use Rattle.std.proofs.Common.{◌≡◌, ◌∙◌, ◌+◌, ◌/◌, ℕ, false, Bool, List, Some, length, take, refl, sym, ap, subst}
use Rattle.std.specs.Prelude.{slice_get}
use Rattle.std.proofs.lemmas.List.{with_items_is}
use Rattle.std.specs.Vec.{with_items}
use Rattle.multi_hart.specs.Parts.{with_harts}
use Rattle.debugger_writes.specs.Pages.{Holds, is_written}
use Rattle.debugger.specs.declared.kept.KeptPlaces.{KeptPlaces}
use Rattle.debugger.specs.declared.kept.KeptPlace.{KeptPlace}
use Rattle.debugger.specs.inner.KeptPlaces.{first_of, last_of}
use Rattle.debugger.proofs.Keeping.{fits-back, put-held, put-memory, put-state}
use Rattle.debugger.proofs.kept.put_back.Goals as goal

pub returns-clause-state : goal.returns-clause-state
returns-clause-state c = λ log memory place fits is text.
    let image = c.args.image.now in
    let kept = c.args.kept.now in
    let three = c.put_places.new.machine in
    let four = c.put_harts.new.machine in
    let own : (copy : KeptPlace) → slice_get kept.places.items c.args.at ≡ Some copy → four ≡ with_harts three copy.harts.items =
    λ copy got. c.put_harts.ensures copy (ap (λ (cs : List KeptPlace). slice_get cs c.args.at) c.deref-3.ensures.value ∙ got) in
    let holds = put-held image kept (c.args.at + 1) c.data.result.now c.deref.result.now c.deref-2.result.now c.args.machine.now c.set_data.new.self
    c.put_below.new.machine three c.data.ensures.value c.set_data.ensures c.deref.ensures.value c.deref-2.ensures.value c.put_below.ensures.holds
    c.put_places.ensures.holds in
    put-state image log kept c.args.at place memory c.data.result.now c.args.machine.now c.set_data.new.self c.put_below.new.machine three four fits is text
    c.data.ensures.value c.set_data.ensures c.put_below.ensures.state c.put_below.ensures.as_many c.put_places.ensures.state c.put_places.ensures.as_many
    holds own

pub returns-clause-fits : goal.returns-clause-fits
returns-clause-fits c = λ log memory fits.
    let image = c.args.image.now in
    let kept = c.args.kept.now in
    let three = c.put_places.new.machine in
    let four = c.put_harts.new.machine in
    let own : (copy : KeptPlace) → slice_get kept.places.items c.args.at ≡ Some copy → four ≡ with_harts three copy.harts.items =
    λ copy got. c.put_harts.ensures copy (ap (λ (cs : List KeptPlace). slice_get cs c.args.at) c.deref-3.ensures.value ∙ got) in
    let holds = put-held image kept (c.args.at + 1) c.data.result.now c.deref.result.now c.deref-2.result.now c.args.machine.now c.set_data.new.self
    c.put_below.new.machine three c.data.ensures.value c.set_data.ensures c.deref.ensures.value c.deref-2.ensures.value c.put_below.ensures.holds
    c.put_places.ensures.holds in
    let here = put-memory kept c.args.at three four c.requires.there own in
    let held : Holds four.memory (last_of (first_of image kept) (take (c.args.at + 1) kept.places.items)) =
    subst (λ (m : List ℕ). Holds m (last_of (first_of image kept) (take (c.args.at + 1) kept.places.items))) (sym here) holds in
    let filled = c.fill.new.self in
    let marked = with_items filled c.mark_behind.new.written in
    let new : KeptPlaces = record { below = kept.below; places = kept.places; written = marked } in
    let long : length c.mark_behind.new.written ≡ length filled.items = c.mark_behind.ensures.marked.flags
    ∙ ap (λ (xs : List Bool). length xs) c.deref_mut.ensures.value in
    let put : marked.items ≡ c.mark_behind.new.written = with_items_is filled c.mark_behind.new.written (long ∙ sym filled.ok.0) in
    let flags : length new.written.items ≡ length kept.written.items = ap (λ (xs : List Bool). length xs) put ∙ long ∙ sym filled.ok.0 ∙ c.fill.ensures.len
    ∙ kept.written.ok.0 in
    let unmarked : (f : ℕ → ℕ) (i : ℕ) → is_written new.written.items (i / 4096) ≡ false
    → last_of f kept.places.items i ≡ last_of f (take (c.args.at + 1) kept.places.items) i =
    λ f i isnt.
    ap (λ (cs : List KeptPlace). last_of f cs i) (sym c.deref-4.ensures.value)
    ∙ c.mark_behind.ensures.others f i (ap (λ (xs : List Bool). is_written xs (i / 4096)) (sym put) ∙ isnt)
    ∙ ap (λ (cs : List KeptPlace). last_of f (take (c.args.at + 1) cs) i) c.deref-4.ensures.value in
    fits-back image log kept new (c.args.at + 1) memory four.memory fits refl refl flags held unmarked
