use Rattle.std.proofs.Common.{refl, subst}
use Rattle.std.specs.Prelude.{IfSome}
use Rattle.task_code_lane_values.specs.inner.Sharing.{IsAnyPart}
use Rattle.task_code_lane_values.proofs.Keeping.{any-part, condition-part, divide-part, first-part, one-part, other-part, part-itself, remainder-part}
use Rattle.task_code_lane_values.proofs.Keeping.{second-part, some-part}
use Rattle.task_code_lane_values.proofs.kept.+part_of_both.Goals as goal

pub returns-then-has : goal.returns-then-has
returns-then-has t c = part-itself c.args.e.now c.args.e.now refl

pub returns-in-Some : goal.returns-in-Some
returns-in-Some t c =
    any-part c.args.e.now c.in-Some.found.now
    (first-part c.args.e.now c.in-Binary.a c.in-Binary.b c.get.result.now c.in-Some.found.now _ c.in-Binary.is c.get.ensures
    (subst (λ o. IfSome o (λ part. IsAnyPart c.get.result.now part.now)) c.in-Some.is c.part_of_both.ensures))

pub returns-in-None : goal.returns-in-None
returns-in-None t c =
    some-part c.part_of_both-in-None.result (λ part. IsAnyPart c.get-in-None.result.now part.now) (λ part. IsAnyPart c.args.e.now part.now)
    (λ part is. any-part c.args.e.now part.now
    (second-part c.args.e.now c.in-Binary.a c.in-Binary.b c.get-in-None.result.now part.now _ c.in-Binary.is c.get-in-None.ensures is))
    c.part_of_both-in-None.ensures

pub returns-in-Divide : goal.returns-in-Divide
returns-in-Divide t c =
    some-part c.part_of_both-in-Divide.result (λ part. IsAnyPart c.get-in-Divide.result.now part.now) (λ part. IsAnyPart c.args.e.now part.now)
    (λ part is. any-part c.args.e.now part.now
    (divide-part c.args.e.now c.in-Divide.a c.get-in-Divide.result.now part.now _ c.in-Divide.is c.get-in-Divide.ensures is))
    c.part_of_both-in-Divide.ensures

pub returns-in-Remainder : goal.returns-in-Remainder
returns-in-Remainder t c =
    some-part c.part_of_both-in-Remainder.result (λ part. IsAnyPart c.get-in-Remainder.result.now part.now) (λ part. IsAnyPart c.args.e.now part.now)
    (λ part is. any-part c.args.e.now part.now
    (remainder-part c.args.e.now c.in-Remainder.a c.get-in-Remainder.result.now part.now _ c.in-Remainder.is c.get-in-Remainder.ensures is))
    c.part_of_both-in-Remainder.ensures

pub returns-in-Some-part_of_both : goal.returns-in-Some-part_of_both
returns-in-Some-part_of_both t c =
    any-part c.args.e.now c.in-Some-part_of_both.found.now
    (condition-part c.args.e.now c.in-Select.c c.in-Select.a c.in-Select.b c.get-in-Select.result.now c.in-Some-part_of_both.found.now c.in-Select.is
    c.get-in-Select.ensures
    (subst (λ o. IfSome o (λ part. IsAnyPart c.get-in-Select.result.now part.now)) c.in-Some-part_of_both.is c.part_of_both-in-Select.ensures))

pub returns-in-Some-part_of_both-2 : goal.returns-in-Some-part_of_both-2
returns-in-Some-part_of_both-2 t c =
    any-part c.args.e.now c.in-Some-part_of_both-2.found.now
    (one-part c.args.e.now c.in-Select.c c.in-Select.a c.in-Select.b c.get-in-None-part_of_both.result.now c.in-Some-part_of_both-2.found.now
    c.in-Select.is c.get-in-None-part_of_both.ensures
    (subst (λ o. IfSome o (λ part. IsAnyPart c.get-in-None-part_of_both.result.now part.now)) c.in-Some-part_of_both-2.is
    c.part_of_both-in-None-part_of_both.ensures))

pub returns-in-None-part_of_both-2 : goal.returns-in-None-part_of_both-2
returns-in-None-part_of_both-2 t c =
    some-part c.part_of_both-in-None-part_of_both-2.result (λ part. IsAnyPart c.get-in-None-part_of_both-2.result.now part.now)
    (λ part. IsAnyPart c.args.e.now part.now)
    (λ part is. any-part c.args.e.now part.now
    (other-part c.args.e.now c.in-Select.c c.in-Select.a c.in-Select.b c.get-in-None-part_of_both-2.result.now part.now c.in-Select.is
    c.get-in-None-part_of_both-2.ensures is))
    c.part_of_both-in-None-part_of_both-2.ensures
