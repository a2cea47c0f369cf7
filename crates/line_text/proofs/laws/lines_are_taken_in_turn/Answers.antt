use Rattle.line_text.proofs.ReadingLaws.{taken_from-append}
use Rattle.line_text.proofs.laws.lines_are_taken_in_turn.Goals as goal

pub returns : goal.returns
returns g c = taken_from-append g.R.LineReader.takes
