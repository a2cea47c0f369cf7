use Rattle.line_text.proofs.SpanLaws.{prefix_len-front}
use Rattle.line_text.proofs.laws.front_is_the_span.Goals as goal

pub returns : goal.returns
returns c = prefix_len-front
