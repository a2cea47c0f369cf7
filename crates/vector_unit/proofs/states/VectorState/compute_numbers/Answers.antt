use Rattle.std.proofs.Common.{arith}
use Rattle.std.proofs.lemmas.Grind.{common_steps}
use Rattle.vector_unit.proofs.states.VectorState.compute_numbers.Goals as goal

pub returns-in-Vadd : goal.returns-in-Vadd
returns-in-Vadd c = grind (arith, common_steps)

pub returns-in-Vand : goal.returns-in-Vand
returns-in-Vand c = grind (arith, common_steps)

pub returns-in-Vmax : goal.returns-in-Vmax
returns-in-Vmax c = grind (arith, common_steps)

pub returns-in-Vmaxu : goal.returns-in-Vmaxu
returns-in-Vmaxu c = grind (arith, common_steps)

pub returns-in-Vmin : goal.returns-in-Vmin
returns-in-Vmin c = grind (arith, common_steps)

pub returns-in-Vminu : goal.returns-in-Vminu
returns-in-Vminu c = grind (arith, common_steps)

pub returns-in-Vor : goal.returns-in-Vor
returns-in-Vor c = grind (arith, common_steps)

pub returns-in-Vsll : goal.returns-in-Vsll
returns-in-Vsll c = grind (arith, common_steps)

pub returns-in-Vsra : goal.returns-in-Vsra
returns-in-Vsra c = grind (arith, common_steps)

pub returns-in-Vsrl : goal.returns-in-Vsrl
returns-in-Vsrl c = grind (arith, common_steps)

pub returns-in-Vsub : goal.returns-in-Vsub
returns-in-Vsub c = grind (arith, common_steps)

pub returns-in-Vxor : goal.returns-in-Vxor
returns-in-Vxor c = grind (arith, common_steps)
