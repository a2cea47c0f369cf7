use Rattle.std.proofs.Common.{[]}
use Rattle.shared_machine.specs.Tallies.{number_name, tally_name}
use Rattle.test_threads.proofs.glances.a_glance_sees_each_drive.Given as goal

abbrev pub ghosts-watch_counter-O-Origin : goal.ghosts-watch_counter-O-Origin
ghosts-watch_counter-O-Origin g a = record { image = a.image; harts = 2; resumed = [] }

abbrev pub ghosts-watch_counter-F-Ledgers : goal.ghosts-watch_counter-F-Ledgers
ghosts-watch_counter-F-Ledgers g a = record { numbers = number_name a.blanks; tallies = tally_name a.blanks }
