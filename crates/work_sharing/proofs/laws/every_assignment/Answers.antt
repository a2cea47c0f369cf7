use Rattle.work_sharing.proofs.Assignments.{every-assignment}
use Rattle.work_sharing.proofs.laws.every_assignment.Goals as goal

pub returns : goal.returns
returns c = every-assignment
