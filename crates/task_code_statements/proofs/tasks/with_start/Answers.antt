use Rattle.std.proofs.Common.{◌≡◌, subst}
use Rattle.std.specs.Prelude.{IfSome}
use Rattle.task_code_borders.specs.Borders.{number}
use Rattle.task_code_statements.proofs.Tasking.{stays-at-number, stays-at-zero, stays-same}
use Rattle.task_code_statements.proofs.tasks.with_start.Goals as goal

pub returns-then-is_own : goal.returns-then-is_own
returns-then-is_own c = stays-same c.args.loop_counter c.args.context

pub returns-then-not-is_border : goal.returns-then-not-is_border
returns-then-not-is_border c =
    stays-at-zero c.args.loop_counter c.args.counter c.args.context c.in_ok-new_context.new_context c.is_own.result c.is_border.result c.is_own.ensures c.if-is_own.false
    c.is_border.ensures c.if-not-is_border.true c.in_ok-new_context.ensures

pub returns-in-None : goal.returns-in-None
returns-in-None c = stays-same c.args.loop_counter c.args.context

pub returns-in_ok-new_context-in-Some : goal.returns-in_ok-new_context-in-Some
returns-in_ok-new_context-in-Some c =
    stays-at-number c.args.loop_counter c.args.counter c.in-Some.number c.args.context
    c.in_ok-new_context-in-Some.new_context
    (subst (λ o. IfSome o (λ n. c.args.counter ≡ number n)) c.in-Some.is c.number_of.ensures) c.in_ok-new_context-in-Some.ensures
