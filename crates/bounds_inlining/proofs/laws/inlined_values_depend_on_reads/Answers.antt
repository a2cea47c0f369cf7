use Rattle.bounds_inlining.proofs.Seeing.{inlined_values_depend_on_reads}
use Rattle.bounds_inlining.proofs.laws.inlined_values_depend_on_reads.Goals as goal

pub returns : goal.returns
returns c = inlined_values_depend_on_reads
