use Rattle.std.specs.Prelude.{IfSome}
use Rattle.task_code_statements.specs.Lessers.{IsLesser}
use Rattle.task_code_statements.proofs.Starting.{lesser-arm}
use Rattle.task_code_statements.proofs.lessers.parts_of.Goals as goal

pub returns-in_ok-found_lesser-in-Minimum : goal.returns-in_ok-found_lesser-in-Minimum
returns-in_ok-found_lesser-in-Minimum c =
    lesser-arm c.args.e.now c.in-Binary.operation c.in-Binary.a c.in-Binary.b c.get.result.now c.get-in-Minimum.result.now
    (λ k. IfSome c.in_ok-found_lesser-in-Minimum.found_lesser (λ own. IsLesser own.form.sum own.number k)) c.in-Binary.is c.in-Minimum.is c.get.ensures
    c.get-in-Minimum.ensures c.in_ok-found_lesser-in-Minimum.ensures
