use Rattle.lowering_nests.proofs.Nesting.{last_repeats}
use Rattle.lowering_nests.proofs.splits.+with_splits.Goals as goal

pub returns-in_ok-statement-in-len1-up-clause-repeats : goal.returns-in_ok-statement-in-len1-up-clause-repeats
returns-in_ok-statement-in-len1-up-clause-repeats t c =
    last_repeats c.args.func c.args.extents c.args.splits.now _ c.in_ok-statement-in-len1-up.statement c.in_ok-inner-in-len1-up.inner c.args.body
    c.extent_of-extent.result
    c.in-len1-up.len_at_least c.requires.splits c.in_ok-sizes-in-len1-up.sizes c.in_ok-sizes-in-len1-up.ensures c.extent_of-extent.ensures.is
    c.in_ok-inner-in-len1-up.ensures.repeats c.in_ok-statement-in-len1-up.ensures.repeats
