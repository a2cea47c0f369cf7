use Rattle.task_code_scalar.proofs.Spelling.{emits_then}
use Rattle.vector_codegen.proofs.phases.emit_gate.Goals as goal

pub returns-clause-ok : goal.returns-clause-ok
returns-clause-ok c = emits_then c.in_ok-count_up.ensures (emits_then c.in_ok-look.ensures (emits_then c.in_ok-branch_back.ensures
    c.in_ok-jump_forth.ensures.ok))
