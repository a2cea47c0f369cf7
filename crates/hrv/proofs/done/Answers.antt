use Rattle.std.proofs.Common.{refl}
use Rattle.hrv.proofs.done.Goals as goal

pub obey-requires-sync-R : goal.obey-requires-sync-R
obey-requires-sync-R g c κs within = (c.type_bounds.sync-R, ((refl, tt), c.requires))
