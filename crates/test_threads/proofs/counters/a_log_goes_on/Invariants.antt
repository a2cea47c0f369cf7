use Rattle.shared_machine.specs.Tallies.{number_name, tally_name}
use Rattle.test_threads.proofs.counters.a_log_goes_on.Given as goal

abbrev pub ghosts-resume_counter-O-Origin : goal.ghosts-resume_counter-O-Origin
ghosts-resume_counter-O-Origin g a = record { image = a.image; harts = a.log.harts; resumed = a.log.turns }

abbrev pub ghosts-resume_counter-F-Ledgers : goal.ghosts-resume_counter-F-Ledgers
ghosts-resume_counter-F-Ledgers g a = record { numbers = number_name a.blanks; tallies = tally_name a.blanks }
