use Rattle.std.proofs.Common.{◌≡◌, map, take}
use Rattle.schedule.specs.Plans as spec
use Rattle.schedule.proofs.plans.plans_of.Given as goal

abbrev pub invariant-loop-func : goal.invariant-loop-func
invariant-loop-func l = l.plans ≡ map spec.plan_of (take l.func-index l.funcs)
