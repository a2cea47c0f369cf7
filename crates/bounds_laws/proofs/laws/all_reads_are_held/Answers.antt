use Rattle.bounds_laws.proofs.Closure.{all_reads_are_held}
use Rattle.bounds_laws.proofs.laws.all_reads_are_held.Goals as goal

pub returns : goal.returns
returns c = all_reads_are_held
