use Rattle.line_text.proofs.FirstFault.{first_fault}
use Rattle.line_text.proofs.laws.named_line_is_the_first.Goals as goal

pub returns : goal.returns
returns g c = first_fault g.R.LineReader.takes
