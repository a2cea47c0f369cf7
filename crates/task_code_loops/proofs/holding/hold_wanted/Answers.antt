use Rattle.std.proofs.Common.{refl, subst}
use Rattle.task_code_loops.specs.Beginning.{StartsIf}
use Rattle.task_code_loops.proofs.Entered.{gains-none, gains-front}
use Rattle.task_code_loops.proofs.holding.hold_wanted.Goals as goal

pub returns-in_ok-inner-in-Some : goal.returns-in_ok-inner-in-Some
returns-in_ok-inner-in-Some c =
    gains-front c.args.counter c.args.scope.items c.as_slice-2.result.now c.in_ok-inner-in-Some.inner.items c.args.form.now c.in-Some.register c.args.reserved
    _ _ c.as_slice-2.ensures.value
    (subst (λ o. StartsIf c.args.code.now.items c.start_known.new.code.items c.args.counter c.as_slice-2.result.now c.args.form.now c.args.reserved o)
    c.in-Some.is c.in_ok-start_known.ensures.some) c.in_ok-inner-in-Some.ensures

pub returns-in-None : goal.returns-in-None
returns-in-None c = gains-none c.args.counter c.args.scope.items _ c.args.reserved _ _ (c.in_ok-start_known.ensures.none c.in-None.is)

pub returns-then-is_some : goal.returns-then-is_some
returns-then-is_some c = gains-none c.args.counter c.args.scope.items _ c.args.reserved _ _ refl
