use Rattle.std.proofs.Common.{refl}
use Rattle.task_code_statements.proofs.Guarding.{passes-so, tested-so}
use Rattle.task_code_statements.proofs.guards.add_test.Goals as goal

pub returns-then-is_below : goal.returns-then-is_below
returns-then-is_below c =
    passes-so c.args.bounds.now c.args.guards.now.items _ c.args.form c.args.extent refl (c.is_below.ensures c.if-is_below.true)

pub returns : goal.returns
returns c = tested-so c.args.bounds.now c.args.guards.now.items c.push.new.self.items _ c.in_ok-push.ensures.items
