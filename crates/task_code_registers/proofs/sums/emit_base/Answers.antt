use Rattle.task_code_registers.specs.Registers.{hart_number}
use Rattle.task_code_registers.proofs.Making.{base-none, base-more}
use Rattle.task_code_registers.proofs.sums.emit_base.Goals as goal

pub returns-then-per_hart-eq0 : goal.returns-then-per_hart-eq0
returns-then-per_hart-eq0 c = base-none c.args.r hart_number c.args.per_hart c.args.number _ _ c.if-per_hart-eq0.true c.ranges.number.fits
    c.in_ok-emit_number.ensures

pub returns : goal.returns
returns c =
    base-more c.args.r hart_number c.args.per_hart c.args.number _ _ _ c.requires.0.0 c.if-per_hart-eq0.false c.in_ok-emit_times.ensures
    c.in_ok-emit_plus.ensures.any
