use Rattle.std.proofs.Common.{◌≡◌, map, take}
use Rattle.schedule.specs.Plans as spec
use Rattle.schedule.proofs.plans.update_stages.Given as goal

abbrev pub invariant-loop-update : goal.invariant-loop-update
invariant-loop-update l = l.stages ≡ map (spec.update_stage l.func) (take l.update-index l.updates)
