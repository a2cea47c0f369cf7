use Rattle.std.proofs.Common.{[]}
use Rattle.shared_machine.specs.Tallies.{number_name, tally_name}
use Rattle.test_memory.proofs.shared_machines.no_memory_is_taken.Given as goal

abbrev pub ghosts-check_opened-O-Origin : goal.ghosts-check_opened-O-Origin
ghosts-check_opened-O-Origin g a = record { image = a.image; harts = 2; resumed = [] }

abbrev pub ghosts-check_opened-F-Ledgers : goal.ghosts-check_opened-F-Ledgers
ghosts-check_opened-F-Ledgers g a = record { numbers = number_name a.blanks; tallies = tally_name a.blanks }

abbrev pub ghosts-check_closed-O-Origin : goal.ghosts-check_closed-O-Origin
ghosts-check_closed-O-Origin g a = record { image = a.image; harts = 2; resumed = [] }

abbrev pub ghosts-check_closed-F-Ledgers : goal.ghosts-check_closed-F-Ledgers
ghosts-check_closed-F-Ledgers g a = record { numbers = number_name a.blanks; tallies = tally_name a.blanks }
