use Rattle.std.proofs.Common.{◌≡◌}
use Rattle.test_threads.proofs.glances.take_glances.Given as goal

abbrev pub invariant-loop : goal.invariant-loop
invariant-loop g l = l.shared.board ≡ l.fn.shared.board
