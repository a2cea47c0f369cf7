use Rattle.std.proofs.Common.{sym}
use Rattle.picture.proofs.AlongLines.{shared-other, shared-own}
use Rattle.picture.proofs.lines.shared_read.Goals as goal

pub returns : goal.returns
returns c columns rows is_x is_y =
    shared-other c.args.scene.now c.args.func_index c.args.line c.args.source c.in-Some.x c.in-Some-y.y c.in_ok-row-2.row columns rows (sym c.if-is_own.ensures)
    (rw c.in-Some.is at is_x) (rw c.in-Some-y.is at is_y) c.in_ok-row-2.ensures

pub returns-then-is_own : goal.returns-then-is_own
returns-then-is_own c columns rows is_x is_y =
    shared-own c.args.scene.now c.args.func_index c.args.line c.args.source c.in-Some.x c.in-Some-y.y c.in_ok-row.row columns rows (sym c.if-is_own.ensures)
    (rw c.in-Some.is at is_x) (rw c.in-Some-y.is at is_y) c.in_ok-row.ensures
