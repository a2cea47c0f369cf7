use Rattle.std.proofs.Common.{◌≡◌, ℕ, List, length, refl, ap, ◌∙◌, arith}
use Rattle.picture.specs.inner.Apart.{stored}
use Rattle.picture.proofs.Along.{refilled}
use Rattle.picture.proofs.StoresApart.{length-stored, stored-table}
use Rattle.picture.proofs.together.store_beside.Goals as goal

pub returns-in-Some-clause-table : goal.returns-in-Some-clause-table
returns-in-Some-clause-table c = λ plane is.
    let offsets = rw c.in-Some.is at c.offset_beside.ensures in
    let own = c.args.table.now in
    let values = c.args.values.now in
    let words = c.store_apart.new.words in
    let same : words ≡ stored values c.in-Some.from 1 (length values) own.pixels.items = c.store_apart.ensures
    ∙ ap (λ (all : List ℕ). stored values c.in-Some.from 1 (length values) all) c.deref_mut.ensures.value in
    let long : length words ≡ length own.pixels.items = ap length same ∙ length-stored values c.in-Some.from 1 (length values) own.pixels.items in
    stored-table c.args.row.now plane own _ c.in-Some.from 1 c.args.width values is
    (λ at less. rw (c.requires.columns at, c.requires.lines at) (offsets.each at less)) c.requires.values
    (record { left_is = refl; top_is = refl; width_is = refl; height_is = refl }) refl c.requires.long
    (refilled own.pixels words (omega (arith, long)) ∙ same)
