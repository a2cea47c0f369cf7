use Rattle.std.proofs.Common.{sym, subst, ◌∙◌, ap, ◌++◌}
use Rattle.task_code_statements.specs.Contexts.{KeepsNames, is_bounded, without}
use Rattle.task_code_statements.proofs.Meeting.{name-meets}
use Rattle.task_code_statements.proofs.contexts.with_name.Goals as goal

pub returns : goal.returns
returns c =
    name-meets c.args.context.now c.args.counter
    (ap (λ b. is_bounded b c.args.counter) (sym c.as_slice.ensures.value) ∙ sym c.is_bounded.ensures ∙ c.if-is_bounded.false) c.args.e.now c.in_ok-own.own _
    c.new-names.result.items c.push.new.self.items (c.lacks.ensures c.if-not-lacks.false) c.in_ok-own.ensures c.new-names.ensures.items
    c.in_ok-push.ensures.items
    (subst (λ l. KeepsNames c.args.counter l c.push.new.self.items c.keep_names.new.named_parts.items) c.as_slice-2.ensures.value c.in_ok-keep_names.ensures)
    (c.in_ok-keep_others.ensures ∙ ap (λ k. k ++ without c.args.counter c.as_slice-3.result.now) c.new-known.ensures.items
    ∙ ap (without c.args.counter) c.as_slice-3.ensures.value)
    (c.in_ok-bounds.ensures ∙ c.as_slice-4.ensures.value)
