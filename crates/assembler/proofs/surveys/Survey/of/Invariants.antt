use Rattle.std.proofs.Common.{◌≡◌, ◌≤◌, ◌+◌, length}
use Rattle.line_text.specs.Lines.{lines_of}
use Rattle.assembler.specs.Places.{surveyed, unsurveyed}
use Rattle.assembler.proofs.surveys.Survey.of.Given as goal

abbrev pub invariant-lines : goal.invariant-lines
invariant-lines l =
    (surveyed l.survey (lines_of l.rest) ≡ surveyed unsurveyed (lines_of l.text)) × (l.survey.here.line + length l.rest ≤ length l.text + 1)

abbrev pub decreases-lines : goal.decreases-lines
decreases-lines l = length l.rest
