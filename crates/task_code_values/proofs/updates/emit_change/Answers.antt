use Rattle.task_code_values.proofs.Updating.{changed-at-once, changed-by}
use Rattle.task_code_values.proofs.updates.emit_change.Goals as goal

pub returns-in-Some-clause-ok : goal.returns-in-Some-clause-ok
returns-in-Some-clause-ok c =
    changed-at-once c.args.site.now.places.now c.args.site.now.scope.now c.args.operation c.args.other.now c.in-Some.own _ _ c.in-Some.ensures
    c.in_ok-emit_immediate.ensures

pub returns-clause-ok : goal.returns-clause-ok
returns-clause-ok c =
    changed-by c.args.site.now.places.now c.args.site.now.scope.now c.args.operation c.args.other.now c.in_ok-second.second _ _ _ c.in_ok-second.ensures.ok
    c.in_ok-emit_operation.ensures
