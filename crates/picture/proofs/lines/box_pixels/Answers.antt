use Rattle.picture.proofs.AlongLines.{column-row, stretch-row}
use Rattle.picture.proofs.lines.box_pixels.Goals as goal

pub returns-in_ok-values-in-Step-Same : goal.returns-in_ok-values-in-Step-Same
returns-in_ok-values-in-Step-Same c = λ plane is.
    stretch-row c.args.width plane c.args.x.now c.args.y.now c.in-Step-Same.first c.in-Step-Same.row c.in-Some.values.now c.in_ok-values-in-Step-Same.values
    c.in-Step-Same.is-0 c.in-Step-Same.is-1
    c.in_ok-values-in-Step-Same.ensures.items (c.in-Some.ensures (λ x. plane x c.in-Step-Same.row) (c.table_window.ensures plane is))

pub returns-in-Some-2 : goal.returns-in-Some-2
returns-in-Some-2 c = λ plane is.
    column-row c.args.width plane c.args.x.now c.args.y.now c.in-Same-Step.column c.in-Same-Step.first c.in-Some-2.values
    c.in-Same-Step.is-0 c.in-Same-Step.is-1 (rw c.in-Some-2.is at (c.in_ok-values-in-Same-Step.ensures plane is))
