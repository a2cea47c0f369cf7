use Rattle.hrv_engines.specs.Verify.{IsVerdict}
use Rattle.hrv.proofs.Answers.{at_by, with_some}
use Rattle.hrv.proofs.dispatch.tell_verdict.Goals as goal

pub returns-in-Ok : goal.returns-in-Ok
returns-in-Ok g c =
    at_by (λ a b. at_by (λ d e. at_by (λ h i. at_by (λ k l. with_some IsVerdict _ _ c.in-Ok.field-0 _ _)))) (rw c.in-Ok.is at c.verify.ensures)

pub returns-in-Err : goal.returns-in-Err
returns-in-Err g c = rw c.in-Err.is at c.verify.ensures
