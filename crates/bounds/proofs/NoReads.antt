-- No reads.
use Rattle.std.proofs.Common.{◌≡◌, ℕ, List, [], ◌∷◌}
use Rattle.bounds_ranges.specs.declared.expressions.ReadRange.{ReadRange}
use Rattle.bounds_ranges.specs.Expressions.{AreFitReads}

pub none_fit : (lasts : List ℕ) (reads : List ReadRange) → reads ≡ [] → AreFitReads lasts reads
unfolding AreFitReads
none_fit lasts [] is = tt
none_fit lasts (read ∷ others) is = absurd cc
