use Rattle.task_code_registers.proofs.Counting.{left-may, left-free}
use Rattle.task_code_registers.proofs.scopes.free_register.Goals as goal

pub returns-then-has_more_left-clause-some : goal.returns-then-has_more_left-clause-some
returns-then-has_more_left-clause-some c = (
  (
    left-may c.args.scope.now c.in_ok-found.found c.in_ok-found.ensures.some,
    left-free c.args.scope.now c.in_ok-found.found c.in_ok-found.ensures.some,
  ),
  c.has_more_left.ensures.yes c.if-has_more_left.true,
)
