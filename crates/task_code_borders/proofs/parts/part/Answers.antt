use Rattle.std.proofs.Common.{arith}
use Rattle.task_code_borders.proofs.Iterations.{part_made}
use Rattle.task_code_borders.proofs.parts.part.Goals as goal

pub returns : goal.returns
returns c = λ inside not within is.
    part_made c.args.parting.counter c.args.all c.args.parting.level c.args.from c.args.count inside c.args.body c.in_ok-inner.inner c.in_ok-bound.bound
    c.iteration-counter.result c.number.result c.iteration-counter.ensures c.number.ensures c.in_ok-inner.ensures c.in_ok-bound.ensures (omega arith) not within
    is
