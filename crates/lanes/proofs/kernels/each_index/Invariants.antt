use Rattle.std.proofs.Common.{◌≡◌, ◌<◌, take, length}
use Rattle.lanes.specs.Words.{EachFrom}
use Rattle.lanes.proofs.kernels.each_index.Given as goal

-- the results so far are those of the indices so far
abbrev pub invariant-loop-i : goal.invariant-loop-i
invariant-loop-i g l = record {
  count : length l.results ≡ g.row.N;
  each : EachFrom (λ i r. (i < g.row.N) × goal.F-post g l.operation i r) 0 (take l.i l.results);
}
