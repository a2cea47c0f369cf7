use Rattle.work_sharing.proofs.Races.{rules-kept}
use Rattle.work_sharing.proofs.laws.rules_kept.Goals as goal

pub returns : goal.returns
returns c = rules-kept
