use Rattle.std.proofs.Common.{ℕ, ◌*◌, ap, ◌∙◌, arith}
use Rattle.std.specs.Prelude.{min}
use Rattle.bounds_inlining.specs.inner.Summing.{most}
use Rattle.bounds_inlining.proofs.Capping.{sums_same, times_parts}
use Rattle.bounds_inlining.proofs.counts.times.Goals as goal

pub returns : goal.returns
returns c = λ x y.
    sums_same c.saturating_mul.result c.saturating_mul-2.result c.saturating_mul-3.result (c.args.n * c.args.a.own) (c.args.n * c.args.a.first)
    (c.args.n * c.args.a.second) x y
    (omega (arith, c.saturating_mul.ensures)) (omega (arith, c.saturating_mul-2.ensures)) (omega (arith, c.saturating_mul-3.ensures))
    ∙ ap (λ (k : ℕ). min k most) (times_parts c.args.n c.args.a.own c.args.a.first c.args.a.second x y)
