use Rattle.assembler_syntax.specs.Tokens.{tokens_of}
use Rattle.assembler_syntax.proofs.Labels.{labelled_head}
use Rattle.assembler_syntax.proofs.statements.word_head.Goals as goal

pub returns : goal.returns
returns c =
    rw (labelled_head c.args.word (tokens_of c.args.bytes.now) (tokens_of c.in-Some.rest.now) (rw c.in-Some.is at c.in_ok-rest.ensures))
    (rw c.label_of.ensures at c.command_head.ensures)
