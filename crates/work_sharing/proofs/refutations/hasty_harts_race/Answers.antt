use Rattle.work_sharing.proofs.Refuted.{hasty-harts-race}
use Rattle.work_sharing.proofs.refutations.hasty_harts_race.Goals as goal

pub returns : goal.returns
returns c = hasty-harts-race
