use Rattle.schedule_loops.proofs.Parallel.{all_iterations}
use Rattle.schedule_loops.proofs.laws.iterations_are_all.Goals as goal

pub returns : goal.returns
returns c = λ func update extents stage is legal. all_iterations func update extents stage is legal
