use Rattle.task_code_statements.proofs.AtOnce.{vector-behind}
use Rattle.task_code_statements.proofs.vectorizing.emit_at_once.Goals as goal

pub returns : goal.returns
returns c =
    vector-behind c.args.site.now.places.now c.args.site.now.scope.now c.args.context.now c.args.bound c.in_ok-lanes.lanes c.args.body.now c.in_ok-found.found _ _
    c.new-words.result.items _ c.as_slice.result.now c.as_slice-left.result.now c.as_slice-2.result.now c.new-words.ensures.items c.in_ok-lanes.ensures
    c.in_ok-found.ensures c.in_ok-emit_run.ensures c.as_slice-left.ensures.value c.as_slice.ensures.value c.as_slice-2.ensures.value c.in_ok-emit_behind.ensures
