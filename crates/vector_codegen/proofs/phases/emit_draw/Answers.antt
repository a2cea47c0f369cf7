use Rattle.std.proofs.Common.{◌∷◌, [], subst}
use Rattle.rv_insn.specs.declared.instructions.Insn.TheVariants.{Branch}
use Rattle.rv_insn.specs.declared.operations.BranchOp.TheVariants.{Bgeu}
use Rattle.task_code_scalar.specs.Words.{Emits}
use Rattle.task_code_scalar.proofs.Spelling.{emits_then}
use Rattle.vector_codegen.proofs.phases.emit_draw.Goals as goal

pub returns : goal.returns
returns c =
    emits_then c.in_ok-count_up.ensures
    (subst (λ z. Emits c.count_up.new.code.items c.branch_back.new.code.items (Branch Bgeu 12 16 z ∷ [])) c.halves_to_door-halves.ensures.is
    c.in_ok-branch_back.ensures)
