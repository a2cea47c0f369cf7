use Rattle.std.proofs.Common.{◌+◌, ◌-◌, ◌*◌, length}
use Rattle.shared_machine.proofs.meetings.+halves.Given as goal

abbrev pub decreases-work_at : goal.decreases-work_at
decreases-work_at g l = 4 * length l.s.now

abbrev pub decreases-work_at_both : goal.decreases-work_at_both
decreases-work_at_both g l = 4 * (length l.a.now + length l.b.now) - 1

abbrev pub decreases-work_at_both-front : goal.decreases-work_at_both-front
decreases-work_at_both-front g l = 4 * length l.a.now + 1

abbrev pub decreases-work_at_both-back : goal.decreases-work_at_both-back
decreases-work_at_both-back g l = 4 * length l.b.now + 1
