use Rattle.std.proofs.Common.{◌≡◌, ◌∙◌, ℕ, List, [], length, map, sym, ap, subst}
use Rattle.loader.specs.Loading.{machine_of}
use Rattle.debugger_writes.specs.Pages.{pages_of}
use Rattle.debugger_writes.specs.Stored.{store_in}
use Rattle.debugger.specs.inner.Held.{Held}
use Rattle.debugger.specs.inner.KeptPlaces.{AreFree}
use Rattle.debugger.proofs.Holding.{held-at-start}
use Rattle.debugger.proofs.sessions.Session.open.Goals as goal

pub invariant_of-result : goal.invariant_of-result
invariant_of-result c =
    let image = c.args.image in
    let log = c.args.log in
    let machine = c.in_ok-machine.machine in
    let first = c.in_ok-opening.opening.items in
    let stores = c.in_ok-insns.insns.items in
    let kept = c.in_ok-kept.kept in
    let state : machine ≡ machine_of image log.harts = c.in_ok-machine.ensures.opened ∙ ap (machine_of image) c.harts.ensures.value in
    let insns : stores ≡ map store_in image.words = c.in_ok-insns.ensures ∙ ap (map store_in) c.words.ensures.value in
    let free : AreFree (pages_of (length image.bytes)) kept = subst (λ (bytes : List ℕ). AreFree (pages_of (length bytes)) kept) c.data.ensures.value
    c.in_ok-kept.ensures.none in
    let held = held-at-start image log machine first stores kept c.words.ensures.rules state c.in_ok-opening.ensures insns free in
    subst (λ (breaks : List ℕ). Held (record { image = image; log = log; place = 0; breaks = breaks; watches = c.new-2.result.items }) machine first stores
    kept) (sym c.new.ensures.items)
    (subst (λ (watches : List ℕ). Held (record { image = image; log = log; place = 0; breaks = []; watches = watches }) machine first stores kept)
    (sym c.new-2.ensures.items) held)
