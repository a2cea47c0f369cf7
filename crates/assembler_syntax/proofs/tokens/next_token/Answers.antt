use Rattle.std.proofs.Common.{sym, ap, ◌∙◌}
use Rattle.line_text.specs.Lines.{ends}
use Rattle.assembler_syntax.proofs.NextToken.{none_left, one_left}
use Rattle.assembler_syntax.proofs.tokens.next_token.Goals as goal

pub returns-then-ends-clause-value : goal.returns-then-ends-clause-value
returns-then-ends-clause-value c =
    none_left c.args.bytes.now (sym (ap ends c.skip_blanks-text.ensures.value) ∙ sym c.ends.ensures ∙ c.if-ends.true)

pub returns-clause-value : goal.returns-clause-value
returns-clause-value c =
    one_left c.args.bytes.now c.skip_blanks-text.result.now _ _ c.skip_blanks-text.ensures.value (sym c.ends.ensures ∙ c.if-ends.false)
    c.in_ok-front_token.ensures.value
