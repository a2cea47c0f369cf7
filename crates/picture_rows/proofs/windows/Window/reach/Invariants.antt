use Rattle.std.proofs.Common.{ℕ, ◌<◌, ◌≤◌, ◌^◌, get_or}
use Rattle.halide_pipeline.specs.Words as word
use Rattle.picture_rows.proofs.windows.Window.reach.Given as goal

abbrev pub invariant-loop-at : goal.invariant-loop-at
invariant-loop-at l = (k : ℕ) → k < l.at → (get_or l.columns k 0 < 2 ^ 32) × (word.subtract (get_or l.columns k 0) l.self.first ≤ l.most)
