use Rattle.shared_machine.specs.Tallies.{number_name, tally_name}
use Rattle.test_memory.proofs.wanting_shared_machines.check_resumed.Given as goal

abbrev pub ghosts-resume-O-Origin : goal.ghosts-resume-O-Origin
ghosts-resume-O-Origin g a = record { image = a.image; harts = a.log.harts; resumed = a.log.turns }

abbrev pub ghosts-resume-F-Ledgers : goal.ghosts-resume-F-Ledgers
ghosts-resume-F-Ledgers g a = record { numbers = number_name a.blanks; tallies = tally_name a.blanks }
