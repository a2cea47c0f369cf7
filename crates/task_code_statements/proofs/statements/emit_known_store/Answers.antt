use Rattle.task_code_statements.proofs.Unclamping.{made-emits}
use Rattle.task_code_statements.proofs.statements.emit_known_store.Goals as goal

pub returns : goal.returns
returns c =
    made-emits c.args.site.now.places.now c.args.site.now.scope.now c.args.context.now c.args.store.now c.in_ok-made.made _ _
    (c.is_plain_store.ensures c.if-not-is_plain_store.false) c.in_ok-made.ensures c.in_ok-emitted.ensures.ok
