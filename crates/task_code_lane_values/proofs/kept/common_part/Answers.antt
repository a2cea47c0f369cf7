use Rattle.std.proofs.Common.{subst}
use Rattle.std.specs.Prelude.{IfSome}
use Rattle.task_code_lane_values.specs.inner.Sharing.{IsAnyPart, IsSmallerPart}
use Rattle.task_code_lane_values.proofs.Keeping.{condition-part, first-part, one-part, some-part}
use Rattle.task_code_lane_values.proofs.kept.common_part.Goals as goal

pub returns-in-Binary : goal.returns-in-Binary
returns-in-Binary c =
    some-part c.common.result (λ part. IsAnyPart c.get.result.now part.now) (λ part. IsSmallerPart c.args.e.now part.now)
    (λ part is. first-part c.args.e.now c.in-Binary.a c.in-Binary.b c.get.result.now part.now _ c.in-Binary.is c.get.ensures is) c.common.ensures

pub returns-in-Some : goal.returns-in-Some
returns-in-Some c =
    condition-part c.args.e.now c.in-Select.c c.in-Select.a c.in-Select.b c.get-in-Select.result.now c.in-Some.found.now c.in-Select.is c.get-in-Select.ensures
    (subst (λ o. IfSome o (λ part. IsAnyPart c.get-in-Select.result.now part.now)) c.in-Some.is c.common-in-Select.ensures)

pub returns-in-Some-common : goal.returns-in-Some-common
returns-in-Some-common c =
    condition-part c.args.e.now c.in-Select.c c.in-Select.a c.in-Select.b c.get-in-None.result.now c.in-Some-common.found.now c.in-Select.is
    c.get-in-None.ensures (subst (λ o. IfSome o (λ part. IsAnyPart c.get-in-None.result.now part.now)) c.in-Some-common.is c.common-in-None.ensures)

pub returns-in-None-common : goal.returns-in-None-common
returns-in-None-common c =
    some-part c.common-in-None-common.result (λ part. IsAnyPart c.get-in-None-common.result.now part.now) (λ part. IsSmallerPart c.args.e.now part.now)
    (λ part is. one-part c.args.e.now c.in-Select.c c.in-Select.a c.in-Select.b c.get-in-None-common.result.now part.now c.in-Select.is
    c.get-in-None-common.ensures is) c.common-in-None-common.ensures
