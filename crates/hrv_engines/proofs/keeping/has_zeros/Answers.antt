use Rattle.std.proofs.Common.{◌-◌, ◌∷◌, []}
use Rattle.std.proofs.lemmas.Bool.Decides.{Decides-eqb}
use Rattle.std.proofs.lemmas.Slice.Eq.{ends_is}
use Rattle.hrv_engines.proofs.Unended.{hexadecimal_zeros_idle, zeros_idle}
use Rattle.hrv_engines.proofs.keeping.has_zeros.Goals as goal

pub returns-then-ends_with-clause-same : goal.returns-then-ends_with-clause-same
returns-then-ends_with-clause-same c = λ is.
    zeros_idle c.args.line.now _ ((ends_is Decides-eqb c.args.line.now (32 ∷ 48 ∷ 48 ∷ []) _ c.ends_with.ensures.value).0 is)

pub returns-else-ends_with-clause-same : goal.returns-else-ends_with-clause-same
returns-else-ends_with-clause-same c = λ is.
    hexadecimal_zeros_idle c.args.line.now _ ((ends_is Decides-eqb c.args.line.now (32 ∷ 48 ∷ 120 ∷ 48 ∷ []) _ c.ends_with-else-ends_with.ensures.value).0 is)
