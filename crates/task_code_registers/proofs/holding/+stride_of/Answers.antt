use Rattle.task_code_registers.proofs.Striding.{stride-more}
use Rattle.task_code_registers.proofs.holding.+stride_of.Goals as goal

pub returns-then-same_counter : goal.returns-then-same_counter
returns-then-same_counter t c =
    stride-more c.args.counter c.args.terms.now _ c.same_counter.result _ _ c.in-len1-up.len_at_least c.same_counter.ensures c.if-same_counter.true
    c.stride_of.ensures
    c.add.ensures
