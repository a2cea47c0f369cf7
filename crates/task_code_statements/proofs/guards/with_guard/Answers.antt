use Rattle.task_code_statements.proofs.Guarding.{one-more}
use Rattle.task_code_statements.proofs.guards.with_guard.Goals as goal

pub returns : goal.returns
returns c = one-more c.args.guards.items c.push.new.self.items _ c.in_ok-push.ensures.items
