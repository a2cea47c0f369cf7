use Rattle.std.proofs.Common.{sym, ap, ◌∙◌}
use Rattle.std.specs.Option.{option_copied}
use Rattle.bounds.proofs.inference.consumer_of.Goals as goal

pub consumer_loop-requires-clause-small : goal.consumer_loop-requires-clause-small
consumer_loop-requires-clause-small c =
    c.requires.small.stages c.args.position.func c.in-Some.plan.now (sym c.get.ensures.value ∙ ap option_copied c.in-Some.is)
