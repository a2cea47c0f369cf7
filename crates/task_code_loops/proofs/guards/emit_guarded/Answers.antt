use Rattle.std.proofs.Common.{[], ◌∷◌, ◌+◌, subst}
use Rattle.rv_insn.specs.declared.instructions.Insn.TheVariants.{Jal}
use Rattle.task_code_scalar.specs.Code.{forth}
use Rattle.task_code_scalar.specs.Words.{Emits}
use Rattle.task_code_scalar.proofs.Refusing.{passed}
use Rattle.task_code_scalar.proofs.Spelling.{emits-length}
use Rattle.task_code_loops.proofs.Testing.{guards}
use Rattle.task_code_loops.proofs.guards.emit_guarded.Goals as goal

pub returns-then-made-clause-ok : goal.returns-then-made-clause-ok
returns-then-made-clause-ok c = λ insns emits.
    guards c.args.scope.now c.args.form.now c.args.extent insns _ _ _ _ _ _ c.args.body.now (c.in_ok-made.ensures.yes c.if-made.true)
    c.in_ok-emit_number.ensures c.in_ok-branch_below.ensures
    (subst (λ k. Emits c.branch_below.new.code.items c.jump_forth.new.code.items (Jal 0 (forth (k + 1)) ∷ [])) (emits-length c.args.body.now insns emits)
    c.in_ok-jump_forth.ensures.ok)
    emits c.in_ok-append.ensures.ok

pub returns-in_err-jump_forth-clause-err : goal.returns-in_err-jump_forth-clause-err
returns-in_err-jump_forth-clause-err c =
    passed c.from_residual-in_err-jump_forth.result c.in_err-jump_forth.field-0.0 c.from_residual-in_err-jump_forth.ensures.1
    (λ long. long) (λ deep. absurd deep) c.in_err-jump_forth.ensures.err
