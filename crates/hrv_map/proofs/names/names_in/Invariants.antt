use Rattle.std.proofs.Common.{◌≡◌, ◌++◌, length}
use Rattle.line_text.specs.Lines.{lines_of}
use Rattle.hrv_map.specs.Names as spec
use Rattle.hrv_map.proofs.names.names_in.Given as goal

-- the names so far and those of the lines that are left are all names
abbrev pub invariant-lines : goal.invariant-lines
invariant-lines l = l.names.items ++ spec.names_in l.kind (lines_of l.rest) ≡ spec.names_in l.kind (lines_of l.text)

abbrev pub decreases-lines : goal.decreases-lines
decreases-lines l = length l.rest
