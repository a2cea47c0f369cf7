use Rattle.std.proofs.Common.{subst}
use Rattle.task_code_loops.specs.Beginning.{variable}
use Rattle.task_code_loops.specs.Guarding.{GuardsWords}
use Rattle.task_code_variables.proofs.Fitting.{passed-on, tested-faulty}
use Rattle.task_code_variables.proofs.statements.emit_tested.Goals as goal

pub returns-clause-ok : goal.returns-clause-ok
returns-clause-ok c =
    subst (λ w. GuardsWords c.args.code.now.words.items c.emit_guarded.new.code.items c.args.scope.now (variable c.args.counter) c.args.extent w)
    c.as_slice-words.ensures.value
    (subst (λ f. GuardsWords c.args.code.now.words.items c.emit_guarded.new.code.items c.args.scope.now f c.args.extent c.as_slice-words.result.now)
    c.in_ok-form.ensures c.in_ok-emit_guarded.ensures.ok)

pub returns-in_err-emit_guarded-clause-err : goal.returns-in_err-emit_guarded-clause-err
returns-in_err-emit_guarded-clause-err c =
    passed-on _ c.from_residual-in_err-emit_guarded.result c.in_err-emit_guarded.field-0.0 c.from_residual-in_err-emit_guarded.ensures.1
    (tested-faulty c.args.scope.now c.args.counter c.in_ok-form.form c.args.new_code.now.words.items c.as_slice-words.result.now _
    c.as_slice-words.ensures.value c.in_ok-form.ensures) c.in_err-emit_guarded.ensures.err
