use Rattle.multi_hart_laws.proofs.Jumps.{load, store, store-writes}
use Rattle.multi_hart_laws.proofs.laws.numbers_are_moved.Goals as goal

pub returns-clause-load : goal.returns-clause-load
returns-clause-load c = load

pub returns-clause-store : goal.returns-clause-store
returns-clause-store c = store

pub returns-clause-writes : goal.returns-clause-writes
returns-clause-writes c = store-writes
