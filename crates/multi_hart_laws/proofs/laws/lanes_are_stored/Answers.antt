use Rattle.multi_hart_laws.proofs.LaneStores.{stores, stores-write}
use Rattle.multi_hart_laws.proofs.laws.lanes_are_stored.Goals as goal

pub returns-clause-memory : goal.returns-clause-memory
returns-clause-memory c = stores

pub returns-clause-writes : goal.returns-clause-writes
returns-clause-writes c = stores-write
