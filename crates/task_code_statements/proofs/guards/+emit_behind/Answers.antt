use Rattle.task_code_vector_loops.proofs.Fronts.{none-there}
use Rattle.task_code_statements.proofs.Guarding.{behind-more, behind-none}
use Rattle.task_code_statements.proofs.guards.+emit_behind.Goals as goal

pub returns-in_ok-append-in-empty : goal.returns-in_ok-append-in-empty
returns-in_ok-append-in-empty t c =
    behind-none c.args.code.now.items _ c.args.scope.now c.args.guards.now c.args.words.now (none-there c.args.guards.now c.in-empty.len_below)
    c.in_ok-append-in-empty.ensures.ok

pub returns-in_ok-emit_behind-in-len1-up : goal.returns-in_ok-emit_behind-in-len1-up
returns-in_ok-emit_behind-in-len1-up t c =
    behind-more c.args.code.now.items _ c.args.scope.now c.args.guards.now c.first-item.result c.in_ok-sum-in-len1-up.sum c.new-inner.result.items _ _
    c.args.words.now c.in-len1-up.len_at_least c.first-item.is c.new-inner.ensures.items c.in_ok-sum-in-len1-up.ensures
    c.in_ok-emit_guarded-in-len1-up.ensures.ok c.as_slice.ensures.value c.in_ok-emit_behind-in-len1-up.ensures
