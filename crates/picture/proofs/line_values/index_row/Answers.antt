use Rattle.picture.proofs.AlongLines.{index-some}
use Rattle.picture.proofs.line_values.index_row.Goals as goal

pub returns-in_ok-row-in-Some : goal.returns-in_ok-row-in-Some
returns-in_ok-row-in-Some c = index-some c.args.scene.now c.args.func_index c.args.line c.args.index.now c.in-Some.index c.in_ok-row-in-Some.row c.in-Some.is
    c.in_ok-row-in-Some.ensures.values
