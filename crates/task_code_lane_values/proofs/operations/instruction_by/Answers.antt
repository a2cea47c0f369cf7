use Rattle.rv_insn.specs.declared.vector_operations.ArithmeticVxOp.TheVariants as vxs
use Rattle.task_code_lane_values.proofs.Computing.{by-add, by-subtract, by-minimum, by-maximum, by-as-is}
use Rattle.task_code_lane_values.proofs.operations.instruction_by.Goals as goal

pub returns-in-Add : goal.returns-in-Add
returns-in-Add c = by-as-is _ _ vxs.Vadd c.in-Add.is by-add

pub returns-in-Subtract : goal.returns-in-Subtract
returns-in-Subtract c = by-as-is _ _ vxs.Vsub c.in-Subtract.is by-subtract

pub returns-in-Minimum : goal.returns-in-Minimum
returns-in-Minimum c = by-as-is _ _ vxs.Vmin c.in-Minimum.is by-minimum

pub returns-in-Maximum : goal.returns-in-Maximum
returns-in-Maximum c = by-as-is _ _ vxs.Vmax c.in-Maximum.is by-maximum
