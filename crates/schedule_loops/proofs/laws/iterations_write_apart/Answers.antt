use Rattle.schedule_loops.proofs.Written.{written_apart}
use Rattle.schedule_loops.proofs.laws.iterations_write_apart.Goals as goal

pub returns : goal.returns
returns c = λ func update extents stage is rules left apart. written_apart func update extents stage is rules left apart
