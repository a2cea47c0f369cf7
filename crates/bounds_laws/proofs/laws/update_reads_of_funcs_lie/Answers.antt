use Rattle.bounds_laws.proofs.Updates.{update_reads_of_funcs_lie}
use Rattle.bounds_laws.proofs.laws.update_reads_of_funcs_lie.Goals as goal

pub returns : goal.returns
returns c = update_reads_of_funcs_lie
