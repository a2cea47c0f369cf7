use Rattle.std.proofs.Common.{◌≡◌, take, length}
use Rattle.lanes.specs.Words.{EachPair}
use Rattle.lanes.proofs.kernels.each_pair.Given as goal

-- the results so far are those of the pairs so far
abbrev pub invariant-loop-i : goal.invariant-loop-i
invariant-loop-i g l = record {
  count : length l.results ≡ g.row.N;
  each : EachPair (λ a b r. goal.F-post g l.operation a b r) (take l.i l.first) (take l.i l.second) (take l.i l.results);
}
