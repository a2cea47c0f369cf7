use Rattle.task_code_scalar.proofs.Spelling.{emits_then}
use Rattle.task_code_scalar.proofs.instructions.emit_literal.Goals as goal

pub returns : goal.returns
returns c = emits_then c.in_ok-load_upper.ensures c.in_ok-add_lower.ensures
