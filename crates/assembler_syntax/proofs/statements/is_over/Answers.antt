use Rattle.std.proofs.Common.{ap, ◌∙◌}
use Rattle.line_text.specs.Lines.{ends}
use Rattle.assembler_syntax.proofs.NextToken.{is_over}
use Rattle.assembler_syntax.proofs.statements.is_over.Goals as goal

pub returns : goal.returns
returns c = c.ends.ensures ∙ ap ends c.skip_blanks.ensures.value ∙ is_over c.args.bytes.now
