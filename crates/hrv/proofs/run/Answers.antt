use Rattle.std.proofs.Common.{refl}
use Rattle.hrv.proofs.run.Goals as goal

pub done-requires-sync-R : goal.done-requires-sync-R
done-requires-sync-R g c κs within = (c.type_bounds.sync-R, ((refl, tt), c.in_ok-invocation.ensures.limits))
