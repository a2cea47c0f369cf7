use Rattle.multi_hart_laws.proofs.Configurations.{configure-at, configure-by, configured-lanes}
use Rattle.multi_hart_laws.proofs.laws.lengths_are_set.Goals as goal

pub returns-clause-at : goal.returns-clause-at
returns-clause-at c = configure-at

pub returns-clause-by : goal.returns-clause-by
returns-clause-by c = configure-by

pub returns-clause-lanes : goal.returns-clause-lanes
returns-clause-lanes c = configured-lanes
