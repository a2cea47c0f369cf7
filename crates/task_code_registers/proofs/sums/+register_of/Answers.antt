use Rattle.std.proofs.Common.{◌∙◌, sym}
use Rattle.task_code_registers.proofs.Variables.{variable-first}
use Rattle.task_code_registers.proofs.sums.+register_of.Goals as goal

pub returns-then-is_variable : goal.returns-then-is_variable
returns-then-is_variable t c =
    variable-first c.args.scope.now c.first-item.result _ c.args.counter c.in-len1-up.len_at_least c.first-item.is (sym c.may_hold.ensures ∙ c.if-may_hold.true)
    (sym c.is_variable.ensures ∙ c.if-is_variable.true)
