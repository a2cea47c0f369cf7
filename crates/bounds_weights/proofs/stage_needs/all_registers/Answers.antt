use Rattle.std.proofs.Common.{ℕ, ap, ◌∙◌}
use Rattle.bounds_inlining.specs.Inlining.{inlined, flagged, needing}
use Rattle.bounds_weights.specs.inner.Tables.{capped, AllNeeds}
use Rattle.bounds_weights.proofs.stage_needs.all_registers.Goals as goal

pub returns : goal.returns
unfolding AllNeeds
returns c = λ flags funcs known.
    c.registers.ensures flags funcs known.0 ∙ ap (λ (n : ℕ). capped (inlined needing (flagged flags) funcs n (λ v. 1) c.args.expr.now)) known.1
