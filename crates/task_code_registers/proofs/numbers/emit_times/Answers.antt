use Rattle.task_code_registers.proofs.Making.{times-none, times-literal, times-shift}
use Rattle.task_code_registers.proofs.numbers.emit_times.Goals as goal

pub returns-then-number-eq0 : goal.returns-then-number-eq0
returns-then-number-eq0 c = times-none c.args.r c.args.s c.args.number _ _ c.if-number-eq0.true c.in_ok-emit_number.ensures

pub returns-in_ok-shift-in-Some : goal.returns-in_ok-shift-in-Some
returns-in_ok-shift-in-Some c = times-shift c.args.r c.args.s c.args.number c.in-Some.k _ _ c.requires.0.0 c.requires.0.1 c.requires.1.0
    c.in-Some.ensures.0 c.in-Some.ensures.1 c.in_ok-shift-in-Some.ensures

pub returns-in_ok-alu-in-None : goal.returns-in_ok-alu-in-None
returns-in_ok-alu-in-None c = times-literal c.args.r c.args.s c.args.number _ _ _ c.requires.0.0 c.requires.0.1 c.requires.1.0 c.requires.1.1.0
    c.requires.1.1.1 c.in_ok-emit_number-in-None.ensures c.in_ok-alu-in-None.ensures
