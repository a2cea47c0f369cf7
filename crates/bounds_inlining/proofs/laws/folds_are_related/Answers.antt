use Rattle.std.proofs.Common.{◌≡◌, true}
use Rattle.bounds_inlining.proofs.Kept as kept
use Rattle.bounds_inlining.proofs.laws.folds_are_related.Goals as goal

pub returns : goal.returns
returns g c = λ test. kept.folds_are_related (λ a b. test a b ≡ true)
