use Rattle.task_code_values.proofs.Dividing.{remainder-made}
use Rattle.task_code_values.proofs.Powers.{remainder-masked, some-power}
use Rattle.task_code_values.proofs.operations.emit_remainder.Goals as goal

pub returns-then-is_some : goal.returns-then-is_some
returns-then-is_some c =
    let power = some-power c.args.divisor c.power_of_two.result c.is_some.result c.is_some.ensures c.if-is_some.true c.power_of_two.ensures in
    remainder-masked c.args.scope.now c.args.r c.args.a c.args.divisor power.exponent c.requires.place c.requires.operand.0 power.few power.is _ _
    c.if-divisor-le-MOST_MASKED.true c.in_ok-emit_masked.ensures

pub returns : goal.returns
returns c =
    remainder-made c.args.scope.now c.args.r c.args.a c.in_ok-s.s c.args.divisor c.requires.place c.requires.operand.0 c.requires.operand.1 c.requires.some
    c.ranges.divisor.fits _ _ c.in_ok-s.ensures _ _ _ _ _ _ c.in_ok-shift.ensures c.in_ok-alu.ensures c.in_ok-alu-2.ensures c.in_ok-alu-3.ensures
    c.in_ok-alu-4.ensures c.in_ok-alu-5.ensures
