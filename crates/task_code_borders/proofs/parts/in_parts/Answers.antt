use Rattle.std.proofs.Common.{arith}
use Rattle.task_code_borders.proofs.Iterations.{parts_made}
use Rattle.task_code_borders.proofs.parts.in_parts.Goals as goal

pub returns : goal.returns
returns c = λ inside not border inner.
    let parting = c.args.parting in
    let middle = c.in_ok-middle.ensures inside not (omega arith) inner in
    parts_made parting.counter inside c.args.cuts.first _ _ c.args.cuts.last c.args.count _ c.in_ok-front.front c.in_ok-all.all c.in_ok-boxed.boxed _ (omega arith)
    (omega arith) c.iteration-around.ensures c.in_ok-boxed.ensures (c.in_ok-front.ensures inside _ not (omega arith) border middle)
    (λ front. c.in_ok-all.ensures inside not (omega arith) border front)
