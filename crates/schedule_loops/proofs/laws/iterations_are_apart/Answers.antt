use Rattle.schedule_loops.proofs.Parallel.{slice_owner}
use Rattle.schedule_loops.proofs.laws.iterations_are_apart.Goals as goal

pub returns : goal.returns
returns c = λ func update extents stage is legal x y there. slice_owner func update extents stage is legal x y there
