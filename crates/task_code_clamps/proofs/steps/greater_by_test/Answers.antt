use Rattle.std.proofs.Common.{◌≤◌, ◌<◌, ◌+◌, arith}
use Rattle.task_code_clamps.specs.Ranges.{level}
use Rattle.task_code_clamps.proofs.Stepping.{greater-up, greater-down}
use Rattle.task_code_clamps.proofs.steps.greater_by_test.Goals as goal

pub returns-then-sum : goal.returns-then-sum
returns-then-sum c =
    let e = c.level-least.ensures in
    let l : level c.args.number ≤ c.args.range.low + 1 = omega (arith, e) in
    let h : c.args.range.high < 4294967295 = omega arith in
    greater-down c.args.sum.now c.args.range c.args.number (omega arith) c.in_ok-next.next c.in_ok-expression.expression l h c.in_ok-next.ensures c.in_ok-expression.ensures

pub returns : goal.returns
returns c =
    let e = c.level-least.ensures in
    let l : level c.args.number ≤ c.args.range.low + 1 = omega (arith, e) in
    greater-up c.args.sum.now c.args.range c.args.number (omega arith) c.in_ok-expression-2.expression l
    c.in_ok-expression-2.ensures
