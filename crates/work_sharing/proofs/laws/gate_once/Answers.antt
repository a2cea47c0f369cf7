use Rattle.work_sharing.proofs.Gates.{gate-once}
use Rattle.work_sharing.proofs.laws.gate_once.Goals as goal

pub returns : goal.returns
returns c = gate-once
