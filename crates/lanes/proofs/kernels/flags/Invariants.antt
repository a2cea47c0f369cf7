use Rattle.std.proofs.Common.{◌≡◌, if◌then◌else◌, map, take, length}
use Rattle.lanes.proofs.kernels.flags.Given as goal

-- those of the first elements
abbrev pub invariant-loop-i : goal.invariant-loop-i
invariant-loop-i g l = record {
  count : length l.results ≡ g.row.N;
  so_far : take l.i l.results ≡ map (λ b. if b then l.here else l.elsewhere) (take l.i l.chosen);
}
