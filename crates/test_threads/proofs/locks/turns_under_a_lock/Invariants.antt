use Rattle.std.specs.Prelude.{[]}
use Rattle.test_threads.proofs.locks.turns_under_a_lock.Given as goal

abbrev pub ghosts-turn_each : goal.ghosts-turn_each
ghosts-turn_each g a = record { image = a.image; harts = 2; resumed = [] }
