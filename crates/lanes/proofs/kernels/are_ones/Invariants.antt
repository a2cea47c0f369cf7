use Rattle.std.proofs.Common.{◌≡◌, ◌==◌, map, take, length}
use Rattle.lanes.proofs.kernels.are_ones.Given as goal

-- tested so far
abbrev pub invariant-loop-i : goal.invariant-loop-i
invariant-loop-i g l = record {
  count : length l.results ≡ g.row.N;
  tested : take l.i l.results ≡ map (λ n. n == 1) (map g.K.LaneKind.number (take l.i l.elements));
}
