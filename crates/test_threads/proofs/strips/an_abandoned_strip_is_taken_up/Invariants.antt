use Rattle.std.proofs.Common.{[]}
use Rattle.shared_machine.specs.Tallies.{number_name, tally_name}
use Rattle.test_threads.proofs.strips.an_abandoned_strip_is_taken_up.Given as goal

abbrev pub ghosts-drive_strips-O-Origin : goal.ghosts-drive_strips-O-Origin
ghosts-drive_strips-O-Origin g a = record { image = a.image; harts = 3; resumed = [] }

abbrev pub ghosts-drive_strips-F-Ledgers : goal.ghosts-drive_strips-F-Ledgers
ghosts-drive_strips-F-Ledgers g a = record { numbers = number_name a.blanks; tallies = tally_name a.blanks }
