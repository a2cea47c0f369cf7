use Rattle.task_code_vector_loops.proofs.Sharing.{first-plain, first-shared}
use Rattle.task_code_vector_loops.proofs.left.emit_first_left.Goals as goal

pub returns-then-stride-eq1 : goal.returns-then-stride-eq1
returns-then-stride-eq1 c =
    first-plain c.args.scope.now c.args.counter c.args.left.now c.in_ok-sum.sum c.in_ok-sum.ensures c.in_ok-start.start c.in_ok-start.ensures _ _
    c.in_ok-emit_reached.ensures.ok c.if-stride-eq1.true

pub returns : goal.returns
returns c =
    first-shared c.args.scope.now c.args.counter c.args.left.now c.in_ok-sum.sum c.in_ok-sum.ensures c.in_ok-start.start c.in_ok-start.ensures _ _
    c.in_ok-emit_reached.ensures.ok _ c.in_ok-emit_share.ensures
