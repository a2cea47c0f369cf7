use Rattle.std.proofs.Common.{◌≡◌, ◌≤◌, length}
use Rattle.loader.specs.Spelling.{trimmed}
use Rattle.loader.proofs.spellings.trimmed.Given as goal

-- after the first ones there are zeros
abbrev pub invariant-loop-front : goal.invariant-loop-front
invariant-loop-front l = record {
  within : length l.kept ≤ length l.bytes;
  same : trimmed l.kept ≡ trimmed l.bytes;
}

abbrev pub decreases-loop-front : goal.decreases-loop-front
decreases-loop-front l = length l.kept

abbrev pub invariant-loop-kept : goal.invariant-loop-kept
invariant-loop-kept l = record {
  within : length l.kept ≤ length l.bytes;
  same : trimmed l.kept ≡ trimmed l.bytes;
}

abbrev pub decreases-loop-kept : goal.decreases-loop-kept
decreases-loop-kept l = length l.kept
