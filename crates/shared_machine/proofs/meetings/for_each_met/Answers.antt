use Rattle.std.proofs.Common.{sym, ◌∙◌}
use Rattle.shared_machine.proofs.Halves.{came_some, came_none}
use Rattle.shared_machine.proofs.meetings.for_each_met.Goals as goal

pub returns-in-Some-clause-done : goal.returns-in-Some-clause-done
returns-in-Some-clause-done g c =
    λ yes. came_some (g.W.Work.done c.args.work.now) (g.W.Work.left c.args.work.now) c.work_at-decision.result.value c.in-Some.field-0 c.args.s.now
    c.work_at-decision.new.s
    (sym c.decided.ensures ∙ c.in-Some.is) c.work_at-decision.ensures.came

pub returns-clause-left : goal.returns-clause-left
returns-clause-left g c =
    λ no. came_none (g.W.Work.done c.args.work.now) (g.W.Work.left c.args.work.now) c.work_at-decision.result.value c.args.s.now c.work_at-decision.new.s
    (sym c.decided.ensures ∙ c.in-None.is) c.work_at-decision.ensures.came
