use Rattle.std.proofs.Common.{None, sym, ap, ◌∙◌}
use Rattle.std.specs.Option.{option_copied}
use Rattle.schedule_loops.proofs.Few.{few_splits}
use Rattle.bounds.proofs.UpdatePlans.{update_splits}
use Rattle.bounds.proofs.tasks.stage_tasks.Goals as goal

pub pure_tasks-requires-clause-splits : goal.pure_tasks-requires-clause-splits
pure_tasks-requires-clause-splits c = few_splits c.args.func.now None c.args.plan.now.pure c.requires.plan.pure

pub update_tasks-requires-clause-splits : goal.update_tasks-requires-clause-splits
update_tasks-requires-clause-splits c =
    update_splits c.args.func.now c.args.plan.now c.requires.plan c.in-Some.at c.in-Some-get.update.now c.in-Some-get-2.stage.now (sym c.get.ensures.value
    ∙ ap option_copied c.in-Some-get.is)
    (sym c.get-2.ensures.value ∙ ap option_copied c.in-Some-get-2.is)
