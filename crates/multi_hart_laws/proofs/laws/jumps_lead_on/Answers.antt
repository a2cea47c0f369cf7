use Rattle.multi_hart_laws.proofs.Jumps.{jump, taken, passed}
use Rattle.multi_hart_laws.proofs.laws.jumps_lead_on.Goals as goal

pub returns-clause-jump : goal.returns-clause-jump
returns-clause-jump c = jump

pub returns-clause-taken : goal.returns-clause-taken
returns-clause-taken c = taken

pub returns-clause-passed : goal.returns-clause-passed
returns-clause-passed c = passed
