use Rattle.std.proofs.Common.{subst}
use Rattle.std.specs.Prelude.{IfSome}
use Rattle.task_code_statements.specs.Lessers.{IsLesser}
use Rattle.task_code_statements.proofs.Starting.{lesser-below}
use Rattle.task_code_statements.proofs.lessers.count_below.Goals as goal

pub returns-then-is_below : goal.returns-then-is_below
returns-then-is_below c =
    lesser-below c.args.bounds.now c.args.e.now c.in-Some.own.form c.in-Some.own.number
    (subst (λ o. IfSome o (λ own. IsLesser own.form.sum own.number c.args.e.now)) c.in-Some.is c.in_ok-own.ensures) c.if-own-lt-NEGATIVE.true
    (c.is_below.ensures c.if-is_below.true)
