use Rattle.std.proofs.Common.{◌≡◌}
use Rattle.multi_hart.specs.Run.{opening_harts}
use Rattle.multi_hart.proofs.machines.Machine.new.Given as goal

abbrev pub invariant-loop-number : goal.invariant-loop-number
invariant-loop-number l = l.all.items ≡ opening_harts l.entry l.harts l.number
