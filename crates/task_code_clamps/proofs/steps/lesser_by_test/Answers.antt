use Rattle.std.proofs.Common.{◌≤◌, ◌+◌, arith}
use Rattle.task_code_clamps.specs.Ranges.{level}
use Rattle.task_code_clamps.proofs.Stepping.{lesser-up, lesser-down}
use Rattle.task_code_clamps.proofs.steps.lesser_by_test.Goals as goal

pub returns-then-sum-eq1 : goal.returns-then-sum-eq1
returns-then-sum-eq1 c =
    let e = c.level-most.ensures in
    let l : c.args.range.high ≤ level c.args.number + 1 = omega (arith, e) in
    let h : 1 ≤ c.args.range.low = omega arith in
    lesser-up c.args.sum.now c.args.range c.args.number (omega arith) c.in_ok-before.before c.in_ok-expression.expression l h c.in_ok-before.ensures c.in_ok-expression.ensures

pub returns : goal.returns
returns c =
    let e = c.level-most.ensures in
    let l : c.args.range.high ≤ level c.args.number + 1 = omega (arith, e) in
    lesser-down c.args.sum.now c.args.range c.args.number (omega arith) c.in_ok-expression-2.expression l
    c.in_ok-expression-2.ensures
