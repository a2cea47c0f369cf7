use Rattle.task_code_registers.proofs.Agreeing.{agree-more}
use Rattle.task_code_registers.proofs.sums.+have_same_strides.Goals as goal

pub returns-then-stride_of : goal.returns-then-stride_of
returns-then-stride_of t c =
    λ yes.
    agree-more c.args.new_terms.now c.args.a.now c.args.b.now _ _ _ c.in-len1-up.len_at_least c.stride_of.ensures c.stride_of-in-len1-up.ensures
    c.if-stride_of.true
    (c.have_same_strides.ensures yes)
