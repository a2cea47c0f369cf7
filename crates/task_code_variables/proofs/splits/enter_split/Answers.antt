use Rattle.std.proofs.Common.{ap, ◌∙◌}
use Rattle.task_code_loops.specs.Beginning.{variable}
use Rattle.task_code_variables.proofs.Entering.{split-entered, left-place, left-apart, taken-left}
use Rattle.task_code_variables.proofs.splits.enter_split.Goals as goal

pub returns-clause-ok : goal.returns-clause-ok
returns-clause-ok c =
    split-entered c.args.scope.now c.in_ok-inner.inner.items c.args.around.now c.args.whole.now c.in-Some.r c.in_ok-form.form _ _ c.requires
    (taken-left c.args.scope.now c.free_register.result c.in-Some.r c.in-Some.is c.free_register.ensures.some) c.in_ok-emit_whole.ensures
    (c.in_ok-form.ensures ∙ ap variable c.numbered.ensures) c.in_ok-inner.ensures

pub emit_whole-requires-clause-place : goal.emit_whole-requires-clause-place
emit_whole-requires-clause-place c =
    left-place c.args.scope.now c.in-Some.r (taken-left c.args.scope.now c.free_register.result c.in-Some.r c.in-Some.is c.free_register.ensures.some).0

pub emit_whole-requires-clause-other : goal.emit_whole-requires-clause-other
emit_whole-requires-clause-other c =
    left-apart c.args.scope.now c.in-Some.r (taken-left c.args.scope.now c.free_register.result c.in-Some.r c.in-Some.is c.free_register.ensures.some).0
