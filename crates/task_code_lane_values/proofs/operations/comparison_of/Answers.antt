use Rattle.rv_insn.specs.declared.vector_operations.CompareVvOp.TheVariants as compares
use Rattle.task_code_lane_values.proofs.Masks.{equal-lanes, greater-lanes, greater-or-equal-lanes, in-order, less-lanes, less-or-equal-lanes, not-equal-lanes}
use Rattle.task_code_lane_values.proofs.Masks.{swapped}
use Rattle.task_code_lane_values.proofs.operations.comparison_of.Goals as goal

pub returns-in-Less : goal.returns-in-Less
returns-in-Less c = in-order _ _ _ compares.Vmslt c.in-Less.is c.in_order.ensures less-lanes

pub returns-in-LessOrEqual : goal.returns-in-LessOrEqual
returns-in-LessOrEqual c = in-order _ _ _ compares.Vmsle c.in-LessOrEqual.is c.in_order-in-LessOrEqual.ensures less-or-equal-lanes

pub returns-in-Greater : goal.returns-in-Greater
returns-in-Greater c = swapped _ _ _ compares.Vmslt c.in-Greater.is c.swapped.ensures greater-lanes

pub returns-in-GreaterOrEqual : goal.returns-in-GreaterOrEqual
returns-in-GreaterOrEqual c = swapped _ _ _ compares.Vmsle c.in-GreaterOrEqual.is c.swapped-in-GreaterOrEqual.ensures greater-or-equal-lanes

pub returns-in-Equal : goal.returns-in-Equal
returns-in-Equal c = in-order _ _ _ compares.Vmseq c.in-Equal.is c.in_order-in-Equal.ensures equal-lanes

pub returns-in-NotEqual : goal.returns-in-NotEqual
returns-in-NotEqual c = in-order _ _ _ compares.Vmsne c.in-NotEqual.is c.in_order-in-NotEqual.ensures not-equal-lanes
