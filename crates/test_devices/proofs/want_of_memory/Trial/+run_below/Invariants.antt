use Rattle.test_devices.proofs.want_of_memory.Trial.+run_below.Given as goal

abbrev pub decreases-run_below : goal.decreases-run_below
decreases-run_below g l = l.calls
