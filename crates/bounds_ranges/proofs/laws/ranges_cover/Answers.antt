use Rattle.bounds_ranges.proofs.Operations.{ranges_cover}
use Rattle.bounds_ranges.proofs.laws.ranges_cover.Goals as goal

pub returns : goal.returns
returns c = ranges_cover
