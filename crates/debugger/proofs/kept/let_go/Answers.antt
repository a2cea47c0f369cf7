use Rattle.std.proofs.Common.{◌≡◌, ◌∙◌, List, Option, length, refl, sym, ap}
use Rattle.std.proofs.lemmas.List.{with_items_is}
use Rattle.std.specs.Vec.{with_items}
use Rattle.debugger_writes.specs.declared.pages.PageCopy.{PageCopy}
use Rattle.debugger.specs.declared.kept.KeptPlaces.{KeptPlaces}
use Rattle.debugger.proofs.Keeping.{first-and-rest, let-go}
use Rattle.debugger.proofs.kept.let_go.Goals as goal

pub returns-clause-fits : goal.returns-clause-fits
returns-clause-fits c = λ image log memory fits.
    let kept = c.args.kept.now in
    let first = c.remove-first.result in
    let was = c.deref_mut.ensures.value in
    let long : length c.settle.new.below ≡ length kept.below.items = c.settle.ensures.as_many ∙ ap (λ (xs : List (Option PageCopy)). length xs) was in
    let put = with_items_is kept.below c.settle.new.below (long ∙ sym kept.below.ok.0) in
    let new : KeptPlaces = record { below = with_items kept.below c.settle.new.below; places = c.remove-first.new.self; written = kept.written } in
    let is = first-and-rest kept.places.items first c.requires c.remove-first.ensures.value in
    (let-go image log kept new first c.deref_mut.result.now c.settle.new.below memory is c.remove-first.ensures.items refl was put c.settle.ensures.as_many
    c.settle.ensures.pages c.settle.ensures.lowest fits).0

pub returns-clause-last : goal.returns-clause-last
returns-clause-last c = λ image log memory fits.
    let kept = c.args.kept.now in
    let first = c.remove-first.result in
    let was = c.deref_mut.ensures.value in
    let long : length c.settle.new.below ≡ length kept.below.items = c.settle.ensures.as_many ∙ ap (λ (xs : List (Option PageCopy)). length xs) was in
    let put = with_items_is kept.below c.settle.new.below (long ∙ sym kept.below.ok.0) in
    let new : KeptPlaces = record { below = with_items kept.below c.settle.new.below; places = c.remove-first.new.self; written = kept.written } in
    let is = first-and-rest kept.places.items first c.requires c.remove-first.ensures.value in
    (let-go image log kept new first c.deref_mut.result.now c.settle.new.below memory is c.remove-first.ensures.items refl was put c.settle.ensures.as_many
    c.settle.ensures.pages c.settle.ensures.lowest fits).1
