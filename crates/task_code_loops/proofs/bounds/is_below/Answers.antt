use Rattle.std.proofs.Common.{◌+◌, ◌<◌, arith}
use Rattle.std.proofs.lemmas.Bool.{ltb-true}
use Rattle.task_code_loops.proofs.Staying.{stays-below}
use Rattle.task_code_loops.proofs.bounds.is_below.Goals as goal

pub returns-else-most : goal.returns-else-most
returns-else-most c = λ test.
    let l = ltb-true (c.from.result + c.in-Some.most) c.from-in-Some.result test in
    let e1 = c.from.ensures in
    let e2 = c.from-in-Some.ensures in
    let less : c.args.form.now.sum.number + c.in-Some.most < c.args.extent = omega (arith, l, e1, e2) in
    stays-below c.args.bounds.now c.args.form.now c.as_slice.result.now c.in-Some.most c.args.extent c.if-form-ne0.false c.as_slice.ensures
    c.in-Some.ensures less c.ranges.extent.fits
