use Rattle.std.proofs.Common.{length}
use Rattle.assembler_syntax.specs.Tokens.{tokens_of}
use Rattle.assembler_syntax.proofs.Keeping.{Taken}
use Rattle.assembler_syntax.proofs.statements.operands_of.Given as goal

abbrev pub invariant-pieces : goal.invariant-pieces
invariant-pieces l = Taken l.most (tokens_of l.bytes) l.operands (tokens_of l.rest)

abbrev pub decreases-pieces : goal.decreases-pieces
decreases-pieces l = length l.rest
