use Rattle.std.proofs.Common.{sym, subst, ◌∙◌, ap, ◌∷◌, ◌++◌}
use Rattle.task_code_statements.specs.Contexts.{StayNamed, is_bounded, without}
use Rattle.task_code_statements.proofs.Meeting.{loop-meets}
use Rattle.task_code_statements.proofs.contexts.in_loop.Goals as goal

pub returns : goal.returns
returns c =
    loop-meets c.args.context.now c.args.bound.counter
    (ap (λ b. is_bounded b c.args.bound.counter) (sym c.as_slice.ensures.value) ∙ sym c.is_bounded.ensures ∙ c.if-is_bounded.false) c.args.bound.count _
    (c.in_ok-keep_others.ensures ∙ ap (λ k. k ++ without c.args.bound.counter c.as_slice-2.result.now) c.new-known.ensures.items
    ∙ ap (without c.args.bound.counter) c.as_slice-2.ensures.value)
    (c.in_ok-bounds.ensures ∙ ap (λ b. c.args.bound ∷ b) c.as_slice-3.ensures.value)
    (subst (λ l. StayNamed c.args.bound.counter l c.in_ok-names.names.items) c.as_slice-4.ensures.value c.in_ok-names.ensures)
