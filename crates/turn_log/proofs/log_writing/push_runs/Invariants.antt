use Rattle.std.proofs.Common.{◌≡◌, ℕ, ◌+◌, ◌*◌, ◌≤◌, ◌++◌, length, vec_len, vec_capacity}
use Rattle.std.specs.List.{flat_map}
use Rattle.turn_log.specs.inner.Kept.{AreRuns, runs_from}
use Rattle.turn_log.specs.LogSpelling.{run_bytes}
use Rattle.turn_log.proofs.log_writing.push_runs.Given as goal

-- the runs so far and those of what is left are all the runs, and there is room for those that are left
abbrev pub invariant-loop-rest : goal.invariant-loop-rest
invariant-loop-rest l =
    (l.out.items ++ flat_map run_bytes (runs_from l.start l.rest) ≡ l.fn.out.items ++ flat_map run_bytes (runs_from 0 l.runs))
    × (vec_len l.out + 9 * length l.rest ≤ vec_capacity l.out)
    × ((harts : ℕ) × AreRuns harts (runs_from l.start l.rest))

abbrev pub decreases-loop-rest : goal.decreases-loop-rest
decreases-loop-rest l = length l.rest
