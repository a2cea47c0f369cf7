use Rattle.std.proofs.Common.{subst, sym, ◌∙◌}
use Rattle.std.specs.Prelude.{IfSome}
use Rattle.std.proofs.lemmas.Bool.{true≢false}
use Rattle.task_code_values.specs.Operands.{IsSum}
use Rattle.task_code_values.proofs.stores.needed_sum.Goals as goal

pub returns-in-Some-clause-ok : goal.returns-in-Some-clause-ok
returns-in-Some-clause-ok c = subst (λ o. IfSome o (IsSum c.args.e.now)) c.in-Some.is c.in_ok-sum.ensures.some

pub returns-in-None-clause-err : goal.returns-in-None-clause-err
returns-in-None-clause-err c = λ leaf. true≢false (sym leaf ∙ c.in_ok-sum.ensures.none c.in-None.is)
