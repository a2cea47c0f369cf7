use Rattle.std.proofs.Common.{sym, ap, ◌∙◌}
use Rattle.std.specs.Option.{option_copied}
use Rattle.bounds.proofs.views.view.Goals as goal

pub consumer_view-requires-clause-small : goal.consumer_view-requires-clause-small
consumer_view-requires-clause-small c =
    c.requires.small.stages c.args.at c.in-Some-get.plan.now (sym c.get.ensures.value ∙ ap option_copied c.in-Some-get.is)
