use Rattle.bounds_inlining.specs.inner.Summing.{sum_at}
use Rattle.bounds_inlining.proofs.Capping.{applied_same}
use Rattle.bounds_inlining.proofs.counts.applied.Goals as goal

pub returns : goal.returns
returns c = λ p q m n hx hy.
    applied_same c.args.sum.own c.args.sum.first c.args.sum.second (sum_at c.number.result p q) (sum_at c.times.result p q) (sum_at c.times-2.result p q)
    (sum_at c.plus.result p q) (sum_at c.plus-2.result p q)
    (sum_at c.args.x p q) (sum_at c.args.y p q) m n
    (c.number.ensures p q) (c.times.ensures p q) (c.times-2.ensures p q) (c.plus.ensures p q) (c.plus-2.ensures p q) hx hy
