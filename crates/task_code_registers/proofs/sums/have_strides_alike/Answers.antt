use Rattle.task_code_registers.proofs.Agreeing.{both-agree}
use Rattle.task_code_registers.proofs.sums.have_strides_alike.Goals as goal

pub returns-then-have_same_strides : goal.returns-then-have_same_strides
returns-then-have_same_strides c =
    λ yes.
    both-agree c.args.a.now c.args.b.now (c.have_same_strides.ensures c.if-have_same_strides.true) (c.have_same_strides-then-have_same_strides.ensures yes)
