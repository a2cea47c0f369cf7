use Rattle.std.proofs.Common.{◌≡◌}
use Rattle.hrv_engines.specs.Records.{trap_below}
use Rattle.hrv_engines.proofs.endings.first_trap.Given as goal

abbrev pub invariant-loop-hart : goal.invariant-loop-hart
invariant-loop-hart l = l.found ≡ trap_below l.machine l.hart
