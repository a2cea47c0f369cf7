use Rattle.std.proofs.Common.{sym, ◌∙◌}
use Rattle.turn_log.proofs.RunAtLaws.{turn_at-none, turn_at-some}
use Rattle.turn_log.proofs.turn_logs.TurnLog.turn_at.Goals as goal

pub returns-in_err-hart : goal.returns-in_err-hart
returns-in_err-hart c = c.from_residual.ensures ∙ sym (turn_at-none c.args.self.now.turns c.args.k (sym c.in_err-hart.ensures))

pub returns : goal.returns
returns c = sym (turn_at-some c.args.self.now.turns c.args.k _ _ (sym c.in_ok-hart.ensures))
