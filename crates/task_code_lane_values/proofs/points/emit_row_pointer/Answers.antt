use Rattle.std.proofs.Common.{subst}
use Rattle.std.specs.Prelude.{IfSome}
use Rattle.task_code_values.specs.Operands.{IsSum}
use Rattle.task_code_lane_values.proofs.Gathering.{pointer-sum, pointer-register}
use Rattle.task_code_lane_values.proofs.points.emit_row_pointer.Goals as goal

pub returns-in_ok-s-in-Some : goal.returns-in_ok-s-in-Some
returns-in_ok-s-in-Some c =
    pointer-sum c.args.site.now.places.now c.args.site.now.scope.now c.args.site.now.lanes c.args.layout.now c.args.x.now c.args.y.now c.in-Some.row
    c.in_ok-form-in-Some.form
    c.in_ok-start-in-Some.start _
    c.in_ok-s-in-Some.s _ _ (subst (λ o. IfSome o (IsSum c.args.y.now)) c.in-Some.is c.in_ok-row.ensures.some) c.in_ok-form-in-Some.ensures
    c.in_ok-start-in-Some.ensures c.in_ok-s-in-Some.ensures

pub returns-in_ok-alu-in-None : goal.returns-in_ok-alu-in-None
returns-in_ok-alu-in-None c =
    pointer-register c.args.site.now.places.now c.args.site.now.scope.now c.args.site.now.lanes c.args.layout.now c.args.x.now c.args.y.now
    c.of_number-zero.result c.in_ok-form-in-None.form
    c.in_ok-start-in-None.start c.bytes_of.result c.multiply-row.result _ c.in_ok-t-in-None.t c.in_ok-b-in-None.b _ _ _ _ _ c.of_number-zero.ensures.value
    c.bytes_of.ensures c.multiply-row.ensures c.in_ok-form-in-None.ensures c.in_ok-start-in-None.ensures c.in_ok-t-in-None.ensures
    c.in_ok-emit_times-in-None.ensures c.in_ok-b-in-None.ensures c.in_ok-alu-in-None.ensures
