use Rattle.std.proofs.Common.{◌*◌, ◌-◌, ◌∙◌, ap}
use Rattle.task_code_loops.proofs.Staying.{most-none, most-more}
use Rattle.task_code_loops.proofs.bounds.+most_of.Goals as goal

pub returns-in-empty : goal.returns-in-empty
returns-in-empty t c = most-none c.args.bounds.now c.args.terms.now c.in-empty.len_below

pub returns-else-own : goal.returns-else-own
returns-else-own t c =
    most-more c.args.bounds.now c.args.terms.now _ c.in_ok-count-in-len1-up.count c.in_ok-rest-in-len1-up.rest _ c.in-len1-up.len_at_least
    c.in_ok-count-in-len1-up.ensures c.in_ok-rest-in-len1-up.ensures
    (ap (λ n. c.from.result * n) c.from-in-len1-up.ensures ∙ ap (λ n. n * (c.in_ok-count-in-len1-up.count - 1)) c.from.ensures)
