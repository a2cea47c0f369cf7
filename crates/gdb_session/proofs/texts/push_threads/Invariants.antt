use Rattle.std.proofs.Common.{◌≡◌, ◌++◌}
use Rattle.gdb_session.specs.Texts.{threads}
use Rattle.gdb_session.proofs.texts.push_threads.Given as goal

abbrev pub invariant-loop-hart : goal.invariant-loop-hart
invariant-loop-hart l = l.out.items ≡ l.fn.out.items ++ threads l.hart
