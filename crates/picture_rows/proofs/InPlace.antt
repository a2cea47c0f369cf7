-- A list that is changed place by place, from the first on.
use Rattle.std.proofs.Common.{◌≡◌, ℕ, ◌<◌, ◌≤◌, List, length, get_or}

-- as many places as before, of which the first this many have new values
pub record Changed (count : ℕ) (before now : List ℕ) (says : ℕ → ℕ) : Type 0 where
  pub len : length now ≡ length before
  pub done : (k : ℕ) → k < count → get_or now k 0 ≡ says k
  pub rest : (k : ℕ) → count ≤ k → get_or now k 0 ≡ get_or before k 0
