use Rattle.std.proofs.Common.{subst, sym}
use Rattle.task_code_vector_loops.specs.inner.Making.{MakesLeast}
use Rattle.task_code_vector_loops.proofs.Counting.{least-more}
use Rattle.task_code_vector_loops.proofs.Fronts.{cons-of, none-there}
use Rattle.task_code_vector_loops.proofs.configuring.+emit_least.Goals as goal

pub returns-in_ok-emit_first_left-in-empty : goal.returns-in_ok-emit_first_left-in-empty
returns-in_ok-emit_first_left-in-empty t c =
    subst (MakesLeast c.args.code.now.items c.emit_first_left.new.code.items c.args.scope.now c.args.counter c.args.first.now)
    (sym (none-there c.args.others.now c.in-empty.len_below)) c.in_ok-emit_first_left-in-empty.ensures

pub returns-in_ok-emit_operation-in-len1-up : goal.returns-in_ok-emit_operation-in-len1-up
returns-in_ok-emit_operation-in-len1-up t c =
    least-more c.args.scope.now c.args.counter c.args.first.now c.next-item.result c.args.others.now _ c.in_ok-register-in-len1-up.register _ _ _ _
    (cons-of c.args.others.now c.next-item.result c.in-len1-up.len_at_least c.next-item.is) c.in_ok-emit_least-in-len1-up.ensures
    c.in_ok-register-in-len1-up.ensures c.in_ok-emit_operation-in-len1-up.ensures
