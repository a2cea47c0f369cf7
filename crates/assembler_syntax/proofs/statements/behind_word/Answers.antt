use Rattle.std.proofs.Common.{refl}
use Rattle.assembler_syntax.specs.Tokens.{tokens_of}
use Rattle.assembler_syntax.proofs.Labels.{label_says, no_label_says}
use Rattle.assembler_syntax.proofs.statements.behind_word.Goals as goal

pub returns-then-is_label : goal.returns-then-is_label
returns-then-is_label c =
    rw (label_says c.args.word c.as_slice.result.now (tokens_of c.args.bytes.now) (tokens_of c.in-Some.rest.now) c.is_label.result
    (rw c.in-Some.is at c.in_ok-rest.ensures) c.as_slice.ensures c.is_label.ensures c.if-is_label.true)
    c.behind_label.ensures

pub returns-else-is_label : goal.returns-else-is_label
returns-else-is_label c =
    rw (no_label_says c.args.word c.as_slice.result.now (tokens_of c.args.bytes.now) (tokens_of c.in-Some.rest.now) c.is_label.result
    (rw c.in-Some.is at c.in_ok-rest.ensures) c.as_slice.ensures c.is_label.ensures c.if-is_label.false)
    refl
