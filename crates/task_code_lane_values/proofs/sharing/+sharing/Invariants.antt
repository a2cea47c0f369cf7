-- The size of the expression, and then how many groups are left.
use Rattle.std.proofs.Common.{◌+◌, ◌*◌, ◌-◌}
use Rattle.loop_ir.specs.declared.expressions.Expr.{size-Expr}
use Rattle.task_code_lane_values.proofs.sharing.+sharing.Given as goal

abbrev pub decreases-emit_into : goal.decreases-emit_into
decreases-emit_into l = 256 * size-Expr l.e.now + 4 * (64 - l.k) + 3

abbrev pub decreases-emit_operand : goal.decreases-emit_operand
decreases-emit_operand l = 256 * size-Expr l.e.now + 4 * (64 - l.k) + 2

abbrev pub decreases-emit_combined : goal.decreases-emit_combined
decreases-emit_combined l = 256 * size-Expr l.e.now + 4 * (64 - l.room.free) + 1

abbrev pub decreases-emit_quotients : goal.decreases-emit_quotients
decreases-emit_quotients l = 256 * size-Expr l.e.now + 4 * (64 - l.k)

abbrev pub decreases-emit_remainders : goal.decreases-emit_remainders
decreases-emit_remainders l = 256 * size-Expr l.e.now + 4 * (64 - l.k)

abbrev pub decreases-emit_operation_of : goal.decreases-emit_operation_of
decreases-emit_operation_of l = 256 * size-Expr l.e.now + 4 * (64 - l.room.free)

abbrev pub decreases-emit_choice_of : goal.decreases-emit_choice_of
decreases-emit_choice_of l = 256 * size-Expr l.e.now + 4 * (64 - l.room.free)

abbrev pub decreases-emit_mask : goal.decreases-emit_mask
decreases-emit_mask l = 256 * size-Expr l.e.now + 4 * (64 - l.k) + 5

abbrev pub decreases-emit_nonzero : goal.decreases-emit_nonzero
decreases-emit_nonzero l = 256 * size-Expr l.e.now + 4 * (64 - l.k) + 4

abbrev pub decreases-emit_compared_with : goal.decreases-emit_compared_with
decreases-emit_compared_with l = 256 * size-Expr l.e.now + 4 * (64 - l.k) + 4

abbrev pub decreases-emit_compared : goal.decreases-emit_compared
decreases-emit_compared l = 256 * size-Expr l.e.now + 4 * (64 - l.k) + 4
