use Rattle.std.proofs.Common.{sym, ◌∙◌}
use Rattle.task_code.proofs.Counting.{laid-size}
use Rattle.task_code.proofs.sizes.loop_size.Goals as goal

pub returns-then-are_copies : goal.returns-then-are_copies
returns-then-are_copies c = (
  c.plus-then-are_copies.ensures.0,
  laid-size c.args.is_laid c.args.count c.args.body c.plus.result c.times.result c.plus-then-are_copies.result (sym c.are_copies.ensures
      ∙ c.if-are_copies.true) c.plus.ensures.1 c.times.ensures.1 c.plus-then-are_copies.ensures.1,
)
