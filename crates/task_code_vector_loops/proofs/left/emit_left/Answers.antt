use Rattle.task_code_vector_loops.proofs.Sharing.{left-plain, left-shared}
use Rattle.task_code_vector_loops.proofs.left.emit_left.Goals as goal

pub returns-then-stride-eq1 : goal.returns-then-stride-eq1
returns-then-stride-eq1 c =
    left-plain c.args.scope.now c.args.counter c.args.left_store.now c.in_ok-sum.sum c.in_ok-sum.ensures c.in_ok-register.register _ _ c.if-stride-eq1.true
    c.in_ok-register.ensures

pub returns : goal.returns
returns c =
    left-shared c.args.scope.now c.args.counter c.args.left_store.now c.in_ok-sum.sum c.in_ok-sum.ensures c.in_ok-register.register _ _ _ c.in_ok-register.ensures
    c.in_ok-emit_share.ensures
