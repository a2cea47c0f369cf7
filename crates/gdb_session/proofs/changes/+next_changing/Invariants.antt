use Rattle.std.proofs.Common.{◌-◌, length}
use Rattle.gdb_session.proofs.changes.+next_changing.Given as goal

abbrev pub decreases-next_changing : goal.decreases-next_changing
decreases-next_changing l = length l.session.now.state.watches - l.number
