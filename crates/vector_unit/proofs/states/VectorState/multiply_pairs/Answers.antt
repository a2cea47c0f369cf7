use Rattle.std.proofs.Common.{arith}
use Rattle.std.proofs.lemmas.Grind.{common_steps}
use Rattle.vector_unit.proofs.states.VectorState.multiply_pairs.Goals as goal

pub returns-in-Vdiv : goal.returns-in-Vdiv
returns-in-Vdiv g c = grind (arith, common_steps)

pub returns-in-Vdivu : goal.returns-in-Vdivu
returns-in-Vdivu g c = grind (arith, common_steps)

pub returns-in-Vmul : goal.returns-in-Vmul
returns-in-Vmul g c = grind (arith, common_steps)

pub returns-in-Vmulh : goal.returns-in-Vmulh
returns-in-Vmulh g c = grind (arith, common_steps)

pub returns-in-Vmulhsu : goal.returns-in-Vmulhsu
returns-in-Vmulhsu g c = grind (arith, common_steps)

pub returns-in-Vmulhu : goal.returns-in-Vmulhu
returns-in-Vmulhu g c = grind (arith, common_steps)

pub returns-in-Vrem : goal.returns-in-Vrem
returns-in-Vrem g c = grind (arith, common_steps)

pub returns-in-Vremu : goal.returns-in-Vremu
returns-in-Vremu g c = grind (arith, common_steps)
