use Rattle.bounds_laws.proofs.OwnReads.{output_lies}
use Rattle.bounds_laws.proofs.laws.output_lies.Goals as goal

pub returns : goal.returns
returns c = output_lies
