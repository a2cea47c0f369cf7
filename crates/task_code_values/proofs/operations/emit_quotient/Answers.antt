use Rattle.task_code_values.proofs.Dividing.{quotient-made}
use Rattle.task_code_values.proofs.Powers.{quotient-shifted}
use Rattle.task_code_values.proofs.operations.emit_quotient.Goals as goal

pub returns-in-Some : goal.returns-in-Some
returns-in-Some c =
    quotient-shifted c.args.scope.now c.args.r c.args.a c.args.divisor c.in-Some.k c.requires.place c.requires.operand.0 c.in-Some.ensures.0
    c.in-Some.ensures.1 _ _ c.in_ok-shift.ensures

pub returns : goal.returns
returns c =
    quotient-made c.args.scope.now c.args.r c.args.a c.in_ok-s.s c.args.divisor c.requires.place c.requires.operand.0 c.requires.operand.1 c.requires.some
    c.ranges.divisor.fits _ _ c.in_ok-s.ensures _ _ _ _ c.in_ok-shift-2.ensures c.in_ok-alu.ensures c.in_ok-alu-2.ensures c.in_ok-alu-3.ensures
