use Rattle.bounds_laws.proofs.Found.{pure_reads_of_inputs_lie}
use Rattle.bounds_laws.proofs.laws.pure_reads_of_inputs_lie.Goals as goal

pub returns : goal.returns
returns c = pure_reads_of_inputs_lie
