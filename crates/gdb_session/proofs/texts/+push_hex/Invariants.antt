use Rattle.std.proofs.Common.{length}
use Rattle.gdb_session.proofs.texts.+push_hex.Given as goal

abbrev pub decreases-push_hex : goal.decreases-push_hex
decreases-push_hex l = length l.bytes.now
