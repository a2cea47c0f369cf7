use Rattle.std.proofs.Common.{◌∙◌, arith}
use Rattle.line_text.specs.Lines.{hexadecimal_number}
use Rattle.assembler_syntax.proofs.Capping.{next_hexadecimal, all_taken, no_digits}
use Rattle.assembler_syntax.proofs.tokens.hexadecimal.Goals as goal

pub loop-digit-preserved : goal.loop-digit-preserved
loop-digit-preserved c = (
  next_hexadecimal c.args.digits.now c.loop-digit.digit-index c.loop-digit.number _ _ c.loop-digit-test.true c.loop-digit.invariant.0 (c.digit_of.ensures.value)
      c.capped-number.ensures.value,
  c.capped-number.ensures.small,
)

pub returns-clause-value : goal.returns-clause-value
returns-clause-value c = all_taken hexadecimal_number c.args.digits.now c.loop-digit.digit-index _ c.loop-digit-test.false c.loop-digit.invariant.0

pub loop-digit-init : goal.loop-digit-init
loop-digit-init c = (no_digits, omega arith)
