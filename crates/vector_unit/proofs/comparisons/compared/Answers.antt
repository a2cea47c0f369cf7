use Rattle.std.proofs.Common.{◌∙◌}
use Rattle.lanes.specs.Words as word
use Rattle.vector_unit.proofs.Zips.{zip_swapped}
use Rattle.vector_unit.proofs.comparisons.compared.Goals as goal

-- src/comparisons.rt:40:1
pub returns-in-Vmsgtu : goal.returns-in-Vmsgtu
returns-in-Vmsgtu g c = rw c.in-Vmsgtu.is (c.less_unsigned-in-Vmsgtu.ensures ∙ zip_swapped (word.less_unsigned g.K.LaneKind.width) c.args.first.now
    c.args.other.now)

-- src/comparisons.rt:40:1
pub returns-in-Vmsgt : goal.returns-in-Vmsgt
returns-in-Vmsgt g c = rw c.in-Vmsgt.is (c.less_signed-in-Vmsgt.ensures ∙ zip_swapped (word.less_signed g.K.LaneKind.width) c.args.first.now c.args.other.now)
