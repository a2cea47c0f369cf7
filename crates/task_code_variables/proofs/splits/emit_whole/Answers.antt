use Rattle.task_code_variables.proofs.Entering.{whole-made}
use Rattle.task_code_variables.proofs.splits.emit_whole.Goals as goal

pub returns : goal.returns
returns c =
    whole-made c.args.scope.now c.args.around.now c.args.whole.now c.args.r c.register_for-outer.result c.register_for-inner.result _ _ _ _
    c.requires.place c.requires.other c.register_for-outer.ensures c.register_for-inner.ensures c.in_ok-emit_times.ensures c.in_ok-emit_bounded.ensures
    c.in_ok-alu.ensures
