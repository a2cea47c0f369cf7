use Rattle.std.proofs.Common.{sym, ◌∙◌}
use Rattle.task_code_vector_loops.proofs.Fronts.{cons-of}
use Rattle.task_code_statements.proofs.Meeting.{one-kept}
use Rattle.task_code_statements.proofs.contexts.+keep_names.Goals as goal

pub returns-in_ok-keep_names-in-len1-up-2 : goal.returns-in_ok-keep_names-in-len1-up-2
returns-in_ok-keep_names-in-len1-up-2 t c =
    one-kept c.args.counter c.args.names.now _ c.args.named_parts.now.items _ _ c.first-item.result
    c.in_ok-own-in-len1-up.own
    (cons-of c.args.names.now c.first-item.result c.in-len1-up.len_at_least c.first-item.is) (sym c.same_counter.ensures ∙ c.if-same_counter.false)
    (c.lacks.ensures c.if-not-lacks.false) c.in_ok-own-in-len1-up.ensures c.in_ok-push-in-len1-up.ensures.items c.in_ok-keep_names-in-len1-up-2.ensures
