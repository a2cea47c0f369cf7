use Rattle.std.proofs.Common.{subst}
use Rattle.task_code_loops.specs.Guarding.{GuardsWords}
use Rattle.task_code_statements.proofs.statements.emit_tested.Goals as goal

pub returns : goal.returns
returns c =
    subst (λ words. GuardsWords c.args.code.now.words.items c.emit_guarded.new.code.items c.args.scope.now c.args.form.now c.args.extent words)
    c.as_slice-words.ensures.value c.in_ok-emit_guarded.ensures.ok
