use Rattle.std.proofs.Common.{◌≡◌, ◌++◌}
use Rattle.multi_hart.specs.Run.{hart_at}
use Rattle.gdb_session.specs.Texts.{integers}
use Rattle.gdb_session.proofs.registers.push_integers.Given as goal

abbrev pub invariant-loop-number : goal.invariant-loop-number
invariant-loop-number l = l.out.items ≡ l.fn.out.items ++ integers (hart_at l.machine l.hart) l.number
