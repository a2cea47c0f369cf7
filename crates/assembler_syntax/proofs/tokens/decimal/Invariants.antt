use Rattle.std.proofs.Common.{◌≡◌, ◌<◌, ◌^◌, ◌+◌, take}
use Rattle.line_text.specs.Lines.{decimal_number}
use Rattle.assembler_syntax.specs.Tokens.{capped}
use Rattle.assembler_syntax.proofs.tokens.decimal.Given as goal

abbrev pub invariant-loop-digit : goal.invariant-loop-digit
invariant-loop-digit l = (l.number ≡ capped (decimal_number (take l.digit-index l.digits))) × (l.number < 2 ^ 32 + 2)
