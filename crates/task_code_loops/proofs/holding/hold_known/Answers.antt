use Rattle.std.proofs.Common.{subst, sym}
use Rattle.task_code_registers.specs.Holding.{Takes}
use Rattle.task_code_loops.specs.Beginning.{StartsIf}
use Rattle.task_code_loops.proofs.holding.hold_known.Goals as goal

pub returns-in_ok-inner-in-Some-clause-some : goal.returns-in_ok-inner-in-Some-clause-some
returns-in_ok-inner-in-Some-clause-some c =
    subst (λ s. Takes c.args.code.now.items c.start_known.new.code.items c.args.counter c.args.scope.now c.args.form.now c.args.reserved c.in-Some.register s)
    (sym c.in_ok-inner-in-Some.ensures)
    (subst (λ o. StartsIf c.args.code.now.items c.start_known.new.code.items c.args.counter c.args.scope.now c.args.form.now c.args.reserved o)
    c.in-Some.is c.in_ok-start_known.ensures.some)
