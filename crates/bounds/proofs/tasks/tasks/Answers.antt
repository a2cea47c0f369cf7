use Rattle.std.proofs.Common.{sym, ap, ◌∙◌}
use Rattle.std.specs.Option.{option_copied}
use Rattle.schedule.specs.Accepted.{IsPlan}
use Rattle.schedule_loops.proofs.AcceptedStages.{pair_at}
use Rattle.bounds.proofs.tasks.tasks.Goals as goal

pub stage_tasks-requires-clause-plan : goal.stage_tasks-requires-clause-plan
stage_tasks-requires-clause-plan c =
    pair_at IsPlan c.args.pipeline.now.funcs c.args.schedule.now.funcs c.args.name.func c.in-Some-func.func.now c.in-Some-get.plan.now c.requires.plans
    (sym c.func.ensures ∙ ap option_copied c.in-Some-func.is)
    (sym c.get.ensures.value ∙ ap option_copied c.in-Some-get.is)
