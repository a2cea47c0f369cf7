use Rattle.std.proofs.Common.{◌^◌, ◌<◌, ◌∙◌, ap, ◌∷◌, refl, arith}
use Rattle.task_code_statements.specs.Contexts.{without}
use Rattle.task_code_statements.proofs.Meeting.{number-meets}
use Rattle.task_code_statements.proofs.contexts.with_number.Goals as goal

pub returns : goal.returns
returns c =
    let small : c.args.number < 2 ^ 32 = omega arith in
    number-meets c.args.context c.args.counter c.args.number c.of_number-sum.result _ small c.of_number-sum.ensures.value
    (c.in_ok-known.ensures ∙ ap (λ k. record { counter = c.args.counter; sum = c.of_number-sum.result } ∷ without c.args.counter k) c.as_slice.ensures.value)
    refl refl
