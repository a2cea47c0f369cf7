use Rattle.bounds.proofs.Finding.{roots-lie}
use Rattle.bounds.proofs.laws.roots_lie.Goals as goal

pub returns : goal.returns
returns c = roots-lie
