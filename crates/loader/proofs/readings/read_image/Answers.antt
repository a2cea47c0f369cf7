use Rattle.std.proofs.Common.{arith}
use Rattle.loader.proofs.Laws.{IfOk-found, answers_again}
use Rattle.loader.proofs.readings.read_image.Goals as goal

pub returns-clause-found : goal.returns-clause-found
returns-clause-found c = IfOk-found c.args.bytes.now c.image_of.result (λ i. omega (arith, c.type_inv.bytes i)) c.image_of.ensures.exact

pub returns-clause-only : goal.returns-clause-only
returns-clause-only c = λ image rules is_spelled. answers_again c.args.bytes.now c.image_of.result image c.image_of.ensures.exact rules is_spelled
