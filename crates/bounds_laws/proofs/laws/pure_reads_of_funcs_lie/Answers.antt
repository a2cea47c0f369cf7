use Rattle.bounds_laws.proofs.FoundFuncs.{pure_reads_of_funcs_lie}
use Rattle.bounds_laws.proofs.laws.pure_reads_of_funcs_lie.Goals as goal

pub returns : goal.returns
returns c = pure_reads_of_funcs_lie
