use Rattle.rv_insn.specs.declared.vector_operations.ArithmeticVxOp.TheVariants as vxs
use Rattle.task_code_lane_values.proofs.Computing.{swapped-add, swapped-subtract, swapped-as-is}
use Rattle.task_code_lane_values.proofs.operations.instruction_swapped.Goals as goal

pub returns-in-Add : goal.returns-in-Add
returns-in-Add c = swapped-as-is _ _ vxs.Vadd c.in-Add.is swapped-add

pub returns-in-Subtract : goal.returns-in-Subtract
returns-in-Subtract c = swapped-as-is _ _ vxs.Vrsub c.in-Subtract.is swapped-subtract
