use Rattle.std.proofs.Common.{◌≡◌, ◌<◌, ℕ, length}
use Rattle.std.specs.Prelude.{slice_index}
use Rattle.drawn_runs.specs.Drawing.{bound_of}
use Rattle.drawn_runs.proofs.drawing.bounds_of.Given as goal

-- the bounds of the harts so far
abbrev pub invariant-loop-hart : goal.invariant-loop-hart
invariant-loop-hart l = record {
  each : (k : ℕ) → k < l.hart → slice_index l.bounds k ≡ bound_of l.limit l.log.turns k;
  long : length l.bounds ≡ 8;
}
