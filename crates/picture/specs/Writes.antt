-- Pixels that an update has written, as the evaluator keeps them. Nothing here is to be believed: the
-- contract of `evaluate` doesn't speak of it.
-- This project's own.
use Rattle.std.specs.Prelude.{◌≡◌, ℕ, ◌+◌, ◌*◌, ◌^◌, ◌<◌, ◌==◌, ◌&&◌, nat_eq, if◌then◌else◌, Option, Some, None}
use Rattle.std.specs.HashMap.{get}
use Rattle.picture.specs.declared.writes.Writes.{Writes}

-- a number for each point
abbrev pub point_number : ℕ → ℕ → ℕ
point_number x y = x * 2 ^ 32 + y

-- what was written last at a point, if anything was
unfoldable pub written : Writes → ℕ → ℕ → Option ℕ
written writes x y = get nat_eq writes.values (point_number x y)

-- one more write
pub record Sets (old new : Writes) (x y value : ℕ) : Type 0 where
  pub each : (i j : ℕ) → i < 2 ^ 32 → j < 2 ^ 32 → written new i j ≡ (if i == x && j == y then Some value else written old i j)

-- no write
pub record IsNone (writes : Writes) : Type 0 where
  pub each : (i j : ℕ) → written writes i j ≡ None
