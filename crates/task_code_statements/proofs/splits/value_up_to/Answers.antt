use Rattle.std.proofs.Common.{◌-◌, subst}
use Rattle.std.specs.Prelude.{IfSome}
use Rattle.task_code_statements.specs.Splits.{BeginsAt, IsInner}
use Rattle.task_code_statements.proofs.Standing.{value-of}
use Rattle.task_code_statements.proofs.splits.value_up_to.Goals as goal

pub returns-then-is_load_free : goal.returns-then-is_load_free
returns-then-is_load_free c =
    value-of c.args.context.now c.args.whole.now c.args.last c.args.extent c.in-Some.inner c.in-Some-2.start c.in_ok-e.e c.requires
    c.if-last-extent.false
    (subst (λ o. IfSome o (IsInner c.args.context.now c.args.whole.now (c.args.extent - c.args.last))) c.in-Some.is c.in_ok-inner.ensures)
    (subst (λ o. IfSome o (BeginsAt c.args.context.now c.args.whole.now)) c.in-Some-2.is c.in_ok-start.ensures) c.in_ok-e.ensures
    (c.is_load_free.ensures c.if-is_load_free.true)
