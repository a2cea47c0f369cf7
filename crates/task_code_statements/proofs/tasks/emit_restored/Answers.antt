use Rattle.std.proofs.Common.{arith}
use Rattle.task_code_scalar.proofs.Spelling.{emits_then}
use Rattle.task_code_statements.proofs.tasks.emit_restored.Goals as goal

pub returns : goal.returns
returns c = (
  emits_then c.in_ok-emit_literal.ensures
      (emits_then c.in_ok-emit_literal-2.ensures (emits_then c.in_ok-emit_literal-3.ensures c.in_ok-emit_literal-4.ensures)),
  omega arith,
)
