use Rattle.std.proofs.Common.{◌+◌, ◌<◌, ◌≤◌, ◌^◌, arith}
use Rattle.std.proofs.lemmas.Bool.{ltb-true}
use Rattle.task_code_loops.proofs.Staying.{stays-past}
use Rattle.task_code_loops.proofs.bounds.is_past.Goals as goal

pub returns-else-most : goal.returns-else-most
returns-else-most c = λ test.
    let l = ltb-true (c.from.result + c.in-Some.most) (2 ^ 32) test in
    let e = c.from.ensures in
    let small : c.args.form.now.sum.number + c.in-Some.most < 2 ^ 32 = omega (arith, l, e) in
    let past : c.args.extent ≤ c.args.form.now.sum.number = omega (arith, c.if-form-extent.false) in
    stays-past c.args.bounds.now c.args.form.now c.as_slice.result.now c.in-Some.most c.args.extent c.if-form-ne0.false c.as_slice.ensures
    c.in-Some.ensures small past
