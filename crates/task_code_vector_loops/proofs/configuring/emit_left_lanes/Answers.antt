use Rattle.std.proofs.Common.{sym, subst, arith}
use Rattle.task_code_vector_loops.specs.Runs.{left_lanes}
use Rattle.task_code_vector_loops.specs.inner.Making.{Configures}
use Rattle.task_code_vector_loops.proofs.Counting.{all-configured, least-configured, left-configured}
use Rattle.task_code_vector_loops.proofs.Fronts.{cons-of, none-there, only-there}
use Rattle.task_code_vector_loops.proofs.configuring.emit_left_lanes.Goals as goal

pub returns-in_ok-put_all-in-empty : goal.returns-in_ok-put_all-in-empty
returns-in_ok-put_all-in-empty c =
    subst (λ l. Configures c.args.code.now.items c.put_all.new.code.items c.args.scope.now c.args.lanes (left_lanes c.args.lanes l))
    (sym (none-there c.args.left.now c.in-empty.len_below))
    (all-configured c.args.scope.now c.args.lanes _ _ c.requires c.in_ok-put_all-in-empty.ensures)

pub returns-in_ok-configure-in-len1 : goal.returns-in_ok-configure-in-len1
returns-in_ok-configure-in-len1 c =
    subst (λ l. Configures c.args.code.now.items c.configure.new.code.items c.args.scope.now c.args.lanes (left_lanes c.args.lanes l))
    (sym (only-there c.args.left.now c.only-item.result c.in-len1.len_at_least c.in-len1.len_below c.only-item.is))
    (left-configured c.args.scope.now c.args.lanes c.only-item.result c.in_ok-register-in-len1.register _ _ _ c.requires c.in_ok-register-in-len1.ensures
    c.in_ok-configure-in-len1.ensures)

pub returns-in_ok-configure-in-len1-up : goal.returns-in_ok-configure-in-len1-up
returns-in_ok-configure-in-len1-up c =
    let two = c.in-len1-up.len_at_least in
    subst (λ l. Configures c.args.code.now.items c.configure-in-len1-up.new.code.items c.args.scope.now c.args.lanes (left_lanes c.args.lanes l))
    (sym (cons-of c.args.left.now c.first-item.result (omega (arith, two)) c.first-item.is))
    (least-configured c.args.scope.now c.args.lanes c.first-item.result _ _ _ _ c.requires c.in_ok-emit_least-in-len1-up.ensures
    c.in_ok-configure-in-len1-up.ensures)
