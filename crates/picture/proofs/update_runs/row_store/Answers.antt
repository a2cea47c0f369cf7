use Rattle.picture.proofs.AlongUpdates.{store-of-row}
use Rattle.picture.proofs.update_runs.row_store.Goals as goal

pub returns : goal.returns
returns c =
    store-of-row c.args.scene.now c.args.pass.own c.args.pass.updates c.args.progress.points c.args.pass.update.now c.args.start.now c.args.row.now c.args.at
    c.args.progress.slice.now _ c.requires.row c.requires.within c.requires.point
    c.value_at.ensures c.value_at-2.ensures c.in_ok-value.ensures
