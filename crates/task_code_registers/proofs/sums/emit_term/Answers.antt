use Rattle.task_code_registers.proofs.Making.{term-one, term-more}
use Rattle.task_code_registers.proofs.sums.emit_term.Goals as goal

pub returns-then-stride-eq1 : goal.returns-then-stride-eq1
returns-then-stride-eq1 c =
    term-one c.args.r c.args.s c.args.stride _ _ c.requires.0.0.0 c.requires.0.0.1 c.requires.1.0 c.if-stride-eq1.true c.in_ok-alu.ensures

pub returns : goal.returns
returns c =
    term-more c.args.r c.args.s c.args.stride _ _ _ c.requires.0.0.0 c.requires.0.0.1 c.requires.0.1.0 c.requires.0.1.1
    c.in_ok-emit_times.ensures c.in_ok-alu-2.ensures
