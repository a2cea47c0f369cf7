use Rattle.std.proofs.Common.{length}
use Rattle.line_text.proofs.ReadingLaws.{Left}
use Rattle.line_text.proofs.line_readers.read_lines.Given as goal

abbrev pub invariant-lines : goal.invariant-lines
invariant-lines g l = Left g.R.LineReader.takes l.fn.reader l.text l.reader l.rest l.count

abbrev pub decreases-lines : goal.decreases-lines
decreases-lines g l = length l.rest
