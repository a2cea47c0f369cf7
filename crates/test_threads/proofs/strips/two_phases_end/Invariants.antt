use Rattle.std.proofs.Common.{[]}
use Rattle.shared_machine.specs.Tallies.{number_name, tally_name}
use Rattle.test_threads.proofs.strips.two_phases_end.Given as goal

abbrev pub ghosts-drive_phases-O-Origin : goal.ghosts-drive_phases-O-Origin
ghosts-drive_phases-O-Origin g a = record { image = a.image; harts = 3; resumed = [] }

abbrev pub ghosts-drive_phases-F-Ledgers : goal.ghosts-drive_phases-F-Ledgers
ghosts-drive_phases-F-Ledgers g a = record { numbers = number_name a.blanks; tallies = tally_name a.blanks }
