use Rattle.race_reports.proofs.Told.{told_first}
use Rattle.race_reports.proofs.laws.told_are_races.Goals as goal

pub returns : goal.returns
returns c = told_first
