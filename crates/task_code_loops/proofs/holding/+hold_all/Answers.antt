use Rattle.std.proofs.Common.{refl}
use Rattle.task_code_loops.proofs.Entered.{gains-none, gains-first}
use Rattle.task_code_loops.proofs.holding.+hold_all.Goals as goal

pub returns-in_ok-inner-in-len1-up-clause-gains : goal.returns-in_ok-inner-in-len1-up-clause-gains
returns-in_ok-inner-in-len1-up-clause-gains t c =
    gains-first c.args.counter c.args.scope.items c.in_ok-next-in-len1-up.next.items c.in_ok-inner-in-len1-up.inner.items c.args.forms.now
    c.first-item.result _ c.args.reserved _ _ _ c.in-len1-up.len_at_least c.first-item.is c.in_ok-next-in-len1-up.ensures
    c.in_ok-inner-in-len1-up.ensures.gains

pub returns-in-empty-clause-gains : goal.returns-in-empty-clause-gains
returns-in-empty-clause-gains t c = gains-none c.args.counter c.args.scope.items _ c.args.reserved _ _ refl
