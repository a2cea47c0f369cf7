use Rattle.std.proofs.Common.{ℕ, ◌+◌, ap, ◌∙◌, arith}
use Rattle.std.specs.Prelude.{min}
use Rattle.bounds_inlining.specs.inner.Summing.{most}
use Rattle.bounds_inlining.proofs.Capping.{sums_same, plus_parts}
use Rattle.bounds_inlining.proofs.counts.plus.Goals as goal

pub returns : goal.returns
returns c = λ x y.
    sums_same c.saturating_add.result c.saturating_add-2.result c.saturating_add-3.result (c.args.a.own + c.args.b.own) (c.args.a.first + c.args.b.first)
    (c.args.a.second + c.args.b.second) x y
    (omega (arith, c.saturating_add.ensures)) (omega (arith, c.saturating_add-2.ensures)) (omega (arith, c.saturating_add-3.ensures))
    ∙ ap (λ (k : ℕ). min k most) (plus_parts c.args.a.own c.args.a.first c.args.a.second c.args.b.own c.args.b.first c.args.b.second x y)
