use Rattle.run_reports.proofs.Counting.{all-counted}
use Rattle.run_reports.proofs.laws.turns_are_made_or_idle.Goals as goal

pub returns : goal.returns
returns c = all-counted
