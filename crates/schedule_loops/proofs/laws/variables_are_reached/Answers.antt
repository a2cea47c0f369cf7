use Rattle.schedule_loops.proofs.Bounded.{within, reached}
use Rattle.schedule_loops.proofs.laws.variables_are_reached.Goals as goal

pub returns : goal.returns
returns c = λ func update extents stage inside outside v iterations is loops some are. (
  within func update extents stage inside outside v iterations is loops some are,
  reached func update extents stage inside outside v iterations is loops some are,
)
