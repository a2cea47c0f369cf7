use Rattle.std.proofs.Common.{[]}
use Rattle.shared_machine.specs.Tallies.{number_name, tally_name}
use Rattle.test_memory.proofs.wanting_shared_machines.check_opened.Given as goal

abbrev pub ghosts-open-O-Origin : goal.ghosts-open-O-Origin
ghosts-open-O-Origin g a = record { image = a.image; harts = 2; resumed = [] }

abbrev pub ghosts-open-F-Ledgers : goal.ghosts-open-F-Ledgers
ghosts-open-F-Ledgers g a = record { numbers = number_name a.blanks; tallies = tally_name a.blanks }
