use Rattle.std.proofs.Common.{◌≡◌, ◌+◌, min, take}
use Rattle.line_text.specs.Lines.{hexadecimal_number}
use Rattle.line_text.proofs.numbers.saturating_hexadecimal.Given as goal

abbrev pub invariant-loop-digit : goal.invariant-loop-digit
invariant-loop-digit l = l.number ≡ min (hexadecimal_number (take l.digit-index l.digits)) (l.most + 1)
