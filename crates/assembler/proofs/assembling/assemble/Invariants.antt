use Rattle.std.proofs.Common.{◌≤◌, ◌+◌, length}
use Rattle.assembler.proofs.WholeTexts.{LinesLeft}
use Rattle.assembler.proofs.assembling.assemble.Given as goal

abbrev pub invariant-lines : goal.invariant-lines
invariant-lines l = LinesLeft l.survey l.building l.rest l.text × (l.building.here.line + length l.rest ≤ length l.text + 1)

abbrev pub decreases-lines : goal.decreases-lines
decreases-lines l = length l.rest
