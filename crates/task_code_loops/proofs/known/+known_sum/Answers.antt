use Rattle.std.proofs.Common.{refl, sym, ◌∙◌}
use Rattle.task_code_loops.proofs.Rewriting.{sum-known}
use Rattle.task_code_loops.proofs.known.+known_sum.Goals as goal

pub returns-then-same_counter : goal.returns-then-same_counter
returns-then-same_counter t c = λ values are.
    sum-known c.args.known.now c.first-item.result _ c.args.counter c.first-item.result.sum c.in-len1-up.len_at_least c.first-item.is
    (sym c.same_counter.ensures ∙ c.if-same_counter.true) refl values are
