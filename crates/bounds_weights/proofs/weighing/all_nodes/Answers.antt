use Rattle.std.proofs.Common.{ℕ, ap, ◌∙◌}
use Rattle.bounds_inlining.specs.Inlining.{inlined, flagged, counting}
use Rattle.bounds_weights.specs.inner.Tables.{capped, AllCounts}
use Rattle.bounds_weights.proofs.weighing.all_nodes.Goals as goal

pub returns : goal.returns
unfolding AllCounts
returns c = λ flags funcs known.
    c.nodes.ensures flags funcs known.0 ∙ ap (λ (n : ℕ). capped (inlined counting (flagged flags) funcs n (λ v. 1) c.args.expr.now)) known.1
