use Rattle.bounds.proofs.Finding.{control-found, inputs-found, roots-found, copies-found, frames-found}
use Rattle.bounds.proofs.laws.parts_are_found.Goals as goal

pub returns-clause-control : goal.returns-clause-control
returns-clause-control c = control-found

pub returns-clause-inputs : goal.returns-clause-inputs
returns-clause-inputs c = inputs-found

pub returns-clause-roots : goal.returns-clause-roots
returns-clause-roots c = roots-found

pub returns-clause-copies : goal.returns-clause-copies
returns-clause-copies c = copies-found

pub returns-clause-frames : goal.returns-clause-frames
returns-clause-frames c = frames-found
