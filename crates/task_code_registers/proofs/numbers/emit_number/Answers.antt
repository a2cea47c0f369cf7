use Rattle.task_code_registers.proofs.Making.{number-small, number-upper, number-literal}
use Rattle.task_code_registers.proofs.numbers.emit_number.Goals as goal

pub returns-then-fits : goal.returns-then-fits
returns-then-fits c = number-small c.args.r c.args.number _ _ c.requires.0 c.requires.1
    (c.fits.ensures.yes c.if-fits.true) c.ranges.number.fits c.in_ok-add_small.ensures

pub returns-then-number-eq0 : goal.returns-then-number-eq0
returns-then-number-eq0 c = number-upper c.args.r c.args.number _ _ c.requires.0 c.requires.1 c.if-number-eq0.true c.ranges.number.fits
    c.in_ok-load_upper.ensures

pub returns : goal.returns
returns c = number-literal c.args.r c.args.number _ _ c.requires.0 c.requires.1 c.ranges.number.fits c.in_ok-emit_literal.ensures
