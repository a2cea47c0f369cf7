use Rattle.std.proofs.Common.{subst}
use Rattle.task_code_registers.specs.Holding.{IsAt}
use Rattle.task_code_statements.proofs.guards.first_of.Goals as goal

pub returns : goal.returns
returns c = subst (λ s. IsAt c.args.counter 0 (record { sum = s; per_hart = 0 }) c.in_ok-start.start) c.in_ok-sum.ensures c.in_ok-start.ensures
