use Rattle.std.proofs.Common.{◌+◌, ◌*◌}
use Rattle.loop_ir.specs.declared.expressions.Expr.{size-Expr}
use Rattle.loop_ir.specs.Parts.{expression_of}
use Rattle.task_code_names.proofs.renaming.+naming.Given as goal

abbrev pub decreases-part_by_names : goal.decreases-part_by_names
decreases-part_by_names l = 3 * size-Expr l.e + 2

abbrev pub decreases-by_names : goal.decreases-by_names
decreases-by_names l = 3 * size-Expr l.e + 1

abbrev pub decreases-parts_by_names : goal.decreases-parts_by_names
decreases-parts_by_names l = 3 * size-Expr (expression_of l.parts)
