use Rattle.std.proofs.Common.{sym, subst, ◌∙◌, ap, ◌∷◌}
use Rattle.task_code_registers.specs.Strides.{has_counter}
use Rattle.task_code_statements.specs.Contexts.{StayNamed, is_bounded, without}
use Rattle.task_code_statements.proofs.Meeting.{sum-meets}
use Rattle.task_code_statements.proofs.contexts.with_sum.Goals as goal

pub returns : goal.returns
returns c =
    sum-meets c.args.context.now c.args.counter
    (ap (λ b. is_bounded b c.args.counter) (sym c.as_slice-else-is_own.ensures.value) ∙ sym c.is_bounded.ensures ∙ c.if-is_bounded.false) c.args.sum.now _
    (ap (has_counter c.args.counter) (sym c.as_slice.ensures) ∙ sym c.has_term-is_own.ensures ∙ c.if-is_own.false)
    (c.in_ok-known.ensures ∙ ap (λ k. record { counter = c.args.counter; sum = c.args.sum.now } ∷ without c.args.counter k) c.as_slice-2.ensures.value)
    (c.in_ok-bounds.ensures ∙ c.as_slice-3.ensures.value)
    (subst (λ l. StayNamed c.args.counter l c.in_ok-names.names.items) c.as_slice-4.ensures.value c.in_ok-names.ensures)
