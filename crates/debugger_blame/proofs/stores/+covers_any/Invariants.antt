use Rattle.std.proofs.Common.{length}
use Rattle.debugger_blame.proofs.stores.+covers_any.Given as goal

abbrev pub decreases-covers_any : goal.decreases-covers_any
decreases-covers_any l = length l.addresses.now
