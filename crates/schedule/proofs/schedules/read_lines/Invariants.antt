use Rattle.std.proofs.Common.{length}
use Rattle.line_text.proofs.ReadingLaws.{Left}
use Rattle.schedule.specs.Reading.{taken}
use Rattle.schedule.proofs.schedules.read_lines.Given as goal

abbrev pub invariant-lines : goal.invariant-lines
invariant-lines l = Left (taken l.pipeline) l.fn.reader l.text l.reader l.rest l.count

abbrev pub decreases-lines : goal.decreases-lines
decreases-lines l = length l.rest
