use Rattle.std.proofs.Common.{◌≡◌, suc, ◌+◌, arith, refl, ◌∙◌}
use Rattle.bounds_inlining.specs.Inlining.{flagged}
use Rattle.loop_ir.proofs.Depths.{depth_store}
use Rattle.lowering.proofs.Registers.{store-need}
use Rattle.lowering.proofs.UpdateStoring.{stores_update, hits_update, sound_update}
use Rattle.lowering.proofs.PureLanes.{store_leaf}
use Rattle.std.proofs.lemmas.Bool.{eq-eqb}
use Rattle.loop_ir.proofs.Runs.{about_store}
use Rattle.lowering.proofs.Sizes.{update-size}
use Rattle.lowering.proofs.update_stores.update_store.Goals as goal

-- src/update_stores.rt:101:1
pub returns-clause-stores : goal.returns-clause-stores
returns-clause-stores c =
    let more : c.args.reader.now.place + 1 ≡ suc c.args.reader.now.place = omega arith in
    stores_update c.args.reader.now.corners.now (flagged c.args.reader.now.flags.now) c.args.reader.now.funcs.now c.args.reader.now.place c.args.corner.now
    c.args.update.now c.in_ok-column.column c.in_ok-row.row c.in_ok-x.x c.in_ok-y.y c.in_ok-value.value
    c.in_ok-arguments.arguments (c.args.reader.now.place + 1) more c.in_ok-arguments.ensures.values c.in_ok-column.ensures.value c.in_ok-row.ensures.value
    c.in_ok-value.ensures.value c.in_ok-x.ensures.value c.in_ok-y.ensures.value

pub returns-clause-hits : goal.returns-clause-hits
returns-clause-hits c =
    hits_update c.args.reader.now.corners.now (flagged c.args.reader.now.flags.now) c.args.reader.now.funcs.now c.args.reader.now.place c.args.corner.now
    c.args.update.now c.in_ok-column.column c.in_ok-row.row c.in_ok-x.x c.in_ok-y.y c.in_ok-value.value
    c.in_ok-arguments.arguments c.in_ok-arguments.ensures.values c.in_ok-column.ensures.value c.in_ok-row.ensures.value c.in_ok-x.ensures.value
    c.in_ok-y.ensures.value

-- src/update_stores.rt:101:1
pub returns-clause-sound : goal.returns-clause-sound
returns-clause-sound c =
    let more : c.args.reader.now.place + 1 ≡ suc c.args.reader.now.place = omega arith in
    sound_update c.args.reader.now.corners.now (flagged c.args.reader.now.flags.now) c.args.reader.now.funcs.now c.args.reader.now.place c.args.corner.now
    c.args.update.now c.in_ok-column.column c.in_ok-row.row c.in_ok-x.x c.in_ok-y.y c.in_ok-value.value
    c.in_ok-arguments.arguments (c.args.reader.now.place + 1) more c.in_ok-arguments.ensures.values c.in_ok-column.ensures.value c.in_ok-row.ensures.value
    c.in_ok-x.ensures.value c.in_ok-y.ensures.value
    c.in_ok-column.ensures.loads c.in_ok-row.ensures.loads c.in_ok-value.ensures.loads c.in_ok-x.ensures.loads c.in_ok-y.ensures.loads

pub returns-clause-depth : goal.returns-clause-depth
returns-clause-depth c = depth_store _

pub returns-clause-needs : goal.returns-clause-needs
returns-clause-needs c =
    let x = c.in_ok-x.ensures.needs in let column = c.in_ok-column.ensures.needs in
    let y = c.in_ok-y.ensures.needs in let row = c.in_ok-row.ensures.needs in
    store-need (record { func = c.args.reader.now.place; x = c.in_ok-x.x; y = c.in_ok-y.y; value = c.in_ok-value.value }) _ _ _ (omega (arith, x, column))
    (omega (arith, y, row)) c.in_ok-value.ensures.needs

pub returns-clause-leaf : goal.returns-clause-leaf
returns-clause-leaf c = store_leaf _

pub returns-clause-about : goal.returns-clause-about
returns-clause-about c = about_store c.args.reader.now.place _ ∙ eq-eqb c.args.reader.now.place c.args.reader.now.place refl

pub returns-clause-sizes : goal.returns-clause-sizes
returns-clause-sizes c = λ short few.
    let own = c.in_ok-arguments.ensures.short few in
    update-size c.args.reader.now.flags.now c.args.reader.now.funcs.now c.args.reader.now.place c.args.update.now (record {
      func = c.args.reader.now.place;
      x =
          c.in_ok-x.x;
      y = c.in_ok-y.y;
      value = c.in_ok-value.value;
    }) c.in_ok-column.column c.in_ok-row.row
    (c.in_ok-column.ensures.sizes short own) (c.in_ok-x.ensures.sizes few.0) (c.in_ok-row.ensures.sizes short own) (c.in_ok-y.ensures.sizes few.1)
    (c.in_ok-y.ensures.numbers few.1) (c.in_ok-value.ensures.sizes short own)
