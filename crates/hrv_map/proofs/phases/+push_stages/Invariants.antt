use Rattle.std.proofs.Common.{length}
use Rattle.hrv_map.proofs.phases.+push_stages.Given as goal

abbrev pub decreases-push_stages : goal.decreases-push_stages
decreases-push_stages l = length l.funcs.now
