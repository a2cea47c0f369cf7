-- How many turns the iterations of a loop take together. This project's own.
use Rattle.std.specs.Prelude.{ℕ, zero, suc, ◌+◌}

-- those of the iterations 0 to n - 1
unfoldable pub total : ℕ → (ℕ → ℕ) → ℕ
total zero of = 0
total (suc n) of = total n of + of n
