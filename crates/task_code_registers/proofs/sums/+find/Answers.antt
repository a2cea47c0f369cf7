use Rattle.std.proofs.Common.{subst, ◌≡◌, ◌<◌, ◌+◌, ◌%◌, ◌^◌, ◌∙◌, sym, ℕ}
use Rattle.std.specs.Prelude.{IfSome}
use Rattle.loop_ir.specs.Counters.{Values}
use Rattle.task_code_registers.specs.Scopes.{form_value}
use Rattle.task_code_registers.proofs.Summing.{near-first}
use Rattle.task_code_registers.proofs.sums.+find.Goals as goal

pub returns-then-may_hold-clause-near : goal.returns-then-may_hold-clause-near
returns-then-may_hold-clause-near t c =
    near-first c.args.scope.now c.first-item.result _ c.args.form.now c.in-Some.number c.in-len1-up.len_at_least c.first-item.is
    (sym c.may_hold.ensures ∙ c.if-may_hold.true)
    (subst (λ o. IfSome o (λ d. (d < 2 ^ 32) × ((hart : ℕ) (values : Values)
    → form_value hart values c.args.form.now ≡ (form_value hart values c.first-item.result.form + d) % 2 ^ 32))) c.in-Some.is
    c.wanted_distance.ensures.apart)
