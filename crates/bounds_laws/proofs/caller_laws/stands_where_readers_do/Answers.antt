use Rattle.bounds_laws.proofs.StandingWhere.{stands_where_readers_do, stands_nowhere_else}
use Rattle.bounds_laws.proofs.caller_laws.stands_where_readers_do.Goals as goal

pub returns-clause-loops : goal.returns-clause-loops
returns-clause-loops c = stands_where_readers_do

pub returns-clause-nowhere : goal.returns-clause-nowhere
returns-clause-nowhere c = stands_nowhere_else
