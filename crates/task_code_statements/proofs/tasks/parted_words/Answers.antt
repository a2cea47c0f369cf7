use Rattle.std.proofs.Common.{[], subst}
use Rattle.std.specs.Prelude.{IfSome}
use Rattle.task_code_borders.specs.Parted.{IsParted}
use Rattle.task_code_statements.proofs.Parted.{found-as, made-appends}
use Rattle.task_code_statements.proofs.tasks.parted_words.Goals as goal

pub returns-in_ok-code-in-Some : goal.returns-in_ok-code-in-Some
returns-in_ok-code-in-Some c =
    found-as c.in_ok-code-in-Some.code
    (λ made. made-appends c.args.phase.now c.with_body-other.result c.in-Some.body c.args.places.now c.args.ticket [] made.words.items c.requires
    c.with_body-other.ensures (subst (λ o. IfSome o (IsParted c.args.phase.now.body)) c.in-Some.is c.in_ok-parted.ensures))
    c.in_ok-code-in-Some.ensures
