use Rattle.bounds.proofs.Finding.{parts-end, parts-aligned}
use Rattle.bounds.proofs.laws.parts_lie_within.Goals as goal

pub returns-clause-ends : goal.returns-clause-ends
returns-clause-ends c = parts-end

pub returns-clause-aligned : goal.returns-clause-aligned
returns-clause-aligned c = parts-aligned
