use Rattle.multi_hart.proofs.Framing.{turn-is, places-are, others-stay}
use Rattle.multi_hart.proofs.TurnByTurn.{shape-run, run-bytes}
use Rattle.multi_hart.proofs.laws.turns_put_back.Goals as goal

pub returns-clause-state : goal.returns-clause-state
returns-clause-state c = turn-is

pub returns-clause-places : goal.returns-clause-places
returns-clause-places c = places-are

pub returns-clause-others : goal.returns-clause-others
returns-clause-others c = others-stay

pub returns-clause-shape : goal.returns-clause-shape
returns-clause-shape c = shape-run

pub returns-clause-bytes : goal.returns-clause-bytes
returns-clause-bytes c = run-bytes
