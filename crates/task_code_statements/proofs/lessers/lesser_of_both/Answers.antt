use Rattle.std.proofs.Common.{subst}
use Rattle.std.specs.Prelude.{IfSome}
use Rattle.task_code_statements.specs.Rewriting.{IsLeafSum}
use Rattle.task_code_statements.proofs.Starting.{lesser-both}
use Rattle.task_code_statements.proofs.lessers.lesser_of_both.Goals as goal

pub returns-in-Some : goal.returns-in-Some
returns-in-Some c =
    lesser-both c.args.a.now c.args.b.now c.in-Some.sum c.in-Number.n c.in-Number.is
    (subst (λ o. IfSome o (IsLeafSum c.args.a.now)) c.in-Some.is c.in_ok-leaf_sum-in-Number.ensures)
