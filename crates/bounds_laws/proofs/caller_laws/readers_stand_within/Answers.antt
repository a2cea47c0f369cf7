use Rattle.bounds_laws.proofs.StandingWithin.{readers_stand_within}
use Rattle.bounds_laws.proofs.caller_laws.readers_stand_within.Goals as goal

pub returns : goal.returns
returns c = readers_stand_within
