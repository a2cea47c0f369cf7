use Rattle.std.proofs.Common.{refl}
use Rattle.task_code_loops.proofs.Rewriting.{no-terms, more-terms}
use Rattle.task_code_loops.proofs.known.+add_known.Goals as goal

pub returns-in-empty : goal.returns-in-empty
returns-in-empty t c = λ values are. no-terms values c.args.new_sum.now c.args.terms.now c.in-empty.len_below

pub returns-in_ok-add_known-in-len1-up : goal.returns-in_ok-add_known-in-len1-up
returns-in_ok-add_known-in-len1-up t c = λ values are.
    more-terms values c.args.new_sum.now c.add_one.new.new_sum c.add_known.new.new_sum c.args.terms.now _ _ c.in-len1-up.len_at_least refl
    (c.in_ok-add_one-in-len1-up.ensures values are) (c.in_ok-add_known-in-len1-up.ensures values are)
