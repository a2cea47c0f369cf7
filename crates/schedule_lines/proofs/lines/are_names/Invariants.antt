use Rattle.std.proofs.Common.{◌≡◌, length}
use Rattle.schedule_lines.specs.Lines as spec
use Rattle.schedule_lines.proofs.lines.are_names.Given as goal

abbrev pub invariant-words : goal.invariant-words
invariant-words l = spec.are_names l.rest ≡ spec.are_names l.words

abbrev pub decreases-words : goal.decreases-words
decreases-words l = length l.rest
