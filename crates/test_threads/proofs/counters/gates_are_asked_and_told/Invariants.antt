use Rattle.std.proofs.Common.{[]}
use Rattle.shared_machine.specs.Tallies.{number_name, tally_name}
use Rattle.test_threads.proofs.counters.gates_are_asked_and_told.Given as goal

abbrev pub ghosts-drive_counter-O-Origin : goal.ghosts-drive_counter-O-Origin
ghosts-drive_counter-O-Origin g a = record { image = a.image; harts = 2; resumed = [] }

abbrev pub ghosts-drive_counter-F-Ledgers : goal.ghosts-drive_counter-F-Ledgers
ghosts-drive_counter-F-Ledgers g a = record { numbers = number_name a.blanks; tallies = tally_name a.blanks }
