use Rattle.std.proofs.Common.{sym, ◌∙◌}
use Rattle.task_code_loops.proofs.Staying.{bound-first}
use Rattle.task_code_loops.proofs.bounds.+count_of.Goals as goal

pub returns-then-same_counter : goal.returns-then-same_counter
returns-then-same_counter t c = λ values below.
    bound-first c.args.bounds.now _ c.args.counter values c.in-len1-up.len_at_least (sym c.same_counter.ensures ∙ c.if-same_counter.true) below
