use Rattle.std.proofs.Common.{arith}
use Rattle.picture_rows.proofs.BetweenBounds.{inside-of}
use Rattle.picture_rows.proofs.clamps.Clamp.inside.Goals as goal

pub returns : goal.returns
returns c =
    inside-of c.args.self c.args.width c.turned-first.result c.turned-low.result c.turned-high.result _ _ (omega arith) c.turned-first.ensures.value
    c.turned-low.ensures.value c.turned-high.ensures.value (omega arith) (omega arith) (omega arith) (omega arith) (λ at less. omega arith)
    (λ at more less. omega arith) (λ at less. omega arith) (λ at more less. omega arith)
