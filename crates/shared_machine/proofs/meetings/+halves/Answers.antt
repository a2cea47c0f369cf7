use Rattle.std.proofs.Common.{rules}
use Rattle.shared_machine.proofs.Halves.{came_one, came_both}
use Rattle.shared_machine.proofs.meetings.+halves.Goals as goal

pub work_at-returns-then-s-eq1-clause-came : goal.work_at-returns-then-s-eq1-clause-came
work_at-returns-then-s-eq1-clause-came g t c =
    came_one (g.W.Work.done c.args.work.now) (g.W.Work.left c.args.work.now) c.work_at_one.result.value c.args.s.now c.index-s-0.result c.work_at_one.new.it
    (search rules) c.work_at_one.ensures.done c.work_at_one.ensures.left

pub work_at-returns-clause-came : goal.work_at-returns-clause-came
work_at-returns-clause-came g t c =
    let cut = c.split_at_mut-a in
    came_both (g.W.Work.done c.args.work.now) (g.W.Work.left c.args.work.now) c.work_at_both.result.value c.args.s.now cut.result.0.now cut.result.1.now _ _
    cut.ensures.value c.work_at_both.ensures.front c.work_at_both.ensures.back
