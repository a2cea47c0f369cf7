use Rattle.std.proofs.Common.{[], ◌++◌, ◌∙◌, ap, subst}
use Rattle.std.specs.Prelude.{IfSome}
use Rattle.task_code_lane_values.specs.inner.Sharing.{MakesOperand}
use Rattle.task_code_lane_values.proofs.Operands.{whole-lanes}
use Rattle.task_code_lane_values.proofs.sharing.emit_values.Goals as goal

pub returns-in_ok-extend_from_slice-in-Some : goal.returns-in_ok-extend_from_slice-in-Some
returns-in_ok-extend_from_slice-in-Some c =
    whole-lanes c.args.site.now c.args.e.now _ _ c.in-Some.made.items
    (c.in_ok-extend_from_slice-in-Some.ensures.items ∙ ap (λ l. c.args.code.now.items ++ l) c.as_slice.ensures.value)
    (subst (λ o. IfSome o (λ made. MakesOperand [] made.items c.args.site.now [] 0 0 c.args.e.now)) c.in-Some.is c.in_ok-first_words.ensures)
