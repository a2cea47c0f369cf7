use Rattle.std.proofs.Common.{[]}
use Rattle.shared_machine.specs.Tallies.{number_name, tally_name}
use Rattle.test_threads.proofs.counters.a_lone_seat_is_driven.Given as goal

abbrev pub ghosts-drive_lone_counter-O-Origin : goal.ghosts-drive_lone_counter-O-Origin
ghosts-drive_lone_counter-O-Origin g a = record { image = a.image; harts = 1; resumed = [] }

abbrev pub ghosts-drive_lone_counter-F-Ledgers : goal.ghosts-drive_lone_counter-F-Ledgers
ghosts-drive_lone_counter-F-Ledgers g a = record { numbers = number_name a.blanks; tallies = tally_name a.blanks }
