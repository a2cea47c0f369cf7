use Rattle.std.proofs.Common.{◌∙◌}
use Rattle.lanes.specs.Words as word
use Rattle.vector_unit.proofs.Zips.{zip_swapped}
use Rattle.vector_unit.proofs.operations.arithmetic.Goals as goal

-- src/operations.rt:56:1
pub returns-in-Vrsub : goal.returns-in-Vrsub
returns-in-Vrsub g c = rw c.in-Vrsub.is (c.sub-in-Vrsub.ensures ∙ zip_swapped (word.sub g.K.LaneKind.width) c.args.first.now c.args.other.now)
