use Rattle.std.proofs.Common.{[]}
use Rattle.shared_machine.specs.Tallies.{number_name, tally_name}
use Rattle.test_threads.proofs.counters.a_stop_ends_all_turns.Given as goal

abbrev pub ghosts-stop_counter-O-Origin : goal.ghosts-stop_counter-O-Origin
ghosts-stop_counter-O-Origin g a = record { image = a.image; harts = 2; resumed = [] }

abbrev pub ghosts-stop_counter-F-Ledgers : goal.ghosts-stop_counter-F-Ledgers
ghosts-stop_counter-F-Ledgers g a = record { numbers = number_name a.blanks; tallies = tally_name a.blanks }
