use Rattle.std.proofs.Common.{refl, ap, ◌∙◌, ◌∷◌, subst}
use Rattle.std.specs.Prelude.{IfSome}
use Rattle.task_code_loops.specs.declared.bounds.Bound.{Bound}
use Rattle.task_code_statements.specs.Contexts.{MeetsName}
use Rattle.task_code_statements.specs.Lessers.{StaysBelow}
use Rattle.task_code_statements.proofs.Starting.{value-meets}
use Rattle.task_code_statements.proofs.contexts.with_value.Goals as goal

pub returns : goal.returns
returns c =
    let own : Bound = record { counter = c.args.counter; count = c.in-Some-2.count } in
    value-meets c.args.context.now c.in-Some.new_context _ c.args.counter c.args.e.now c.in-Some-2.count c.as_slice.result.now c.as_slice.ensures.value
    (subst (λ o. IfSome o (MeetsName c.args.context.now c.args.counter c.args.e.now)) c.in-Some.is
    c.in_ok-new_context.ensures)
    (subst (λ o. IfSome o (StaysBelow c.as_slice.result.now c.args.e.now)) c.in-Some-2.is c.in_ok-count.ensures) refl
    (c.in_ok-bounds.ensures ∙ ap (λ l. own ∷ l) c.as_slice-2.ensures.value) refl
