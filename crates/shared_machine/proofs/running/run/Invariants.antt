use Rattle.shared_machine.specs.Tallies.{number_name, tally_name}
use Rattle.shared_machine.proofs.running.run.Given as goal

abbrev pub ghosts-run_named-O-Origin : goal.ghosts-run_named-O-Origin
ghosts-run_named-O-Origin g a = record { image = a.image; harts = a.log.harts; resumed = a.log.turns }

abbrev pub ghosts-run_named-F-Ledgers : goal.ghosts-run_named-F-Ledgers
ghosts-run_named-F-Ledgers g a = record { numbers = number_name a.blanks; tallies = tally_name a.blanks }

abbrev pub ghosts-run_alone : goal.ghosts-run_alone
ghosts-run_alone g a = record { image = a.image; harts = a.log.harts; resumed = a.log.turns }
