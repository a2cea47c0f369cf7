use Rattle.std.proofs.Common.{refl, sym}
use Rattle.picture.proofs.AlongUpdates.{own-call1, own-call2}
use Rattle.picture.proofs.update_rows.own_indices.Goals as goal

pub returns-in-Some : goal.returns-in-Some
returns-in-Some c =
    own-call1 c.args.scene.now c.args.func_index c.args.width c.args.start.now c.args.expr.now c.in-Call1.source c.in-Call1.x c.get.result.now _ c.in-Call1.is
    c.get.ensures (sym c.if-not-is_own.ensures)
    (rw c.in-Some.is at c.in_ok-x-in-Call1.ensures) refl

pub returns-in-Some-3 : goal.returns-in-Some-3
returns-in-Some-3 c =
    own-call2 c.args.scene.now c.args.func_index c.args.width c.args.start.now c.args.expr.now c.in-Call2.source c.in-Call2.x c.in-Call2.y c.get-in-Call2.result.now
    c.get-in-Call2-2.result.now _ c.in-Call2.is
    c.get-in-Call2.ensures c.get-in-Call2-2.ensures (sym c.if-not-is_own-2.ensures) (rw c.in-Some-2.is at c.in_ok-x-in-Call2.ensures)
    (rw c.in-Some-3.is at c.in_ok-y-in-Call2.ensures)
