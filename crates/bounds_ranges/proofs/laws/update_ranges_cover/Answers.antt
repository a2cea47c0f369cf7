use Rattle.bounds_ranges.proofs.Operations.{update_ranges_cover}
use Rattle.bounds_ranges.proofs.laws.update_ranges_cover.Goals as goal

pub returns : goal.returns
returns c = update_ranges_cover
