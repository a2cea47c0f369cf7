use Rattle.rv_insn.specs.declared.vector_operations.CompareVxOp.TheVariants as compares
use Rattle.task_code_lane_values.proofs.Comparing.{compared-as-is, compared-less, compared-less-or-equal, compared-greater, compared-equal, compared-not-equal}
use Rattle.task_code_lane_values.proofs.operations.comparison_with.Goals as goal

pub returns-in-Less : goal.returns-in-Less
returns-in-Less c = compared-as-is _ _ compares.Vmslt c.in-Less.is compared-less

pub returns-in-LessOrEqual : goal.returns-in-LessOrEqual
returns-in-LessOrEqual c = compared-as-is _ _ compares.Vmsle c.in-LessOrEqual.is compared-less-or-equal

pub returns-in-Greater : goal.returns-in-Greater
returns-in-Greater c = compared-as-is _ _ compares.Vmsgt c.in-Greater.is compared-greater

pub returns-in-Equal : goal.returns-in-Equal
returns-in-Equal c = compared-as-is _ _ compares.Vmseq c.in-Equal.is compared-equal

pub returns-in-NotEqual : goal.returns-in-NotEqual
returns-in-NotEqual c = compared-as-is _ _ compares.Vmsne c.in-NotEqual.is compared-not-equal
