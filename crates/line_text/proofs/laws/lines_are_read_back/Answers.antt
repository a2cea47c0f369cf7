use Rattle.line_text.proofs.LinesBack.{ended_back, unended_back}
use Rattle.line_text.proofs.laws.lines_are_read_back.Goals as goal

pub returns : goal.returns
returns c = record { ended = ended_back; unended = unended_back }
