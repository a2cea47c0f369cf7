use Rattle.std.proofs.Common.{[]}
use Rattle.shared_machine.specs.Tallies.{number_name, tally_name}
use Rattle.test_memory.proofs.wanting_threads.check_driven.Given as goal

abbrev pub ghosts-drive_both-O-Origin : goal.ghosts-drive_both-O-Origin
ghosts-drive_both-O-Origin g a = record { image = a.image; harts = 2; resumed = [] }

abbrev pub ghosts-drive_both-F-Ledgers : goal.ghosts-drive_both-F-Ledgers
ghosts-drive_both-F-Ledgers g a = record { numbers = number_name a.blanks; tallies = tally_name a.blanks }
