-- Pixels that the evaluator keeps one by one. Nothing here is to be believed: the contract of `evaluate` doesn't
-- speak of it.
-- This project's own.
use Rattle.std.specs.Prelude.{◌≡◌, ℕ, ◌+◌, ◌*◌, ◌^◌, ◌<◌, ◌==◌, ◌&&◌, nat_eq, if◌then◌else◌, Option, Some, None}
use Rattle.std.specs.HashMap.{get}
use Rattle.picture.specs.declared.memos.Memo.{Memo}

-- a number for each point of each Func
abbrev pub pixel_number : ℕ → ℕ → ℕ → ℕ
pixel_number func_index x y = func_index * 2 ^ 64 + x * 2 ^ 32 + y

-- what is known of the Func at this place, if anything is
unfoldable pub remembered : Memo → ℕ → ℕ → ℕ → Option ℕ
remembered memo func_index x y = get nat_eq memo.values (pixel_number func_index x y)

-- one pixel more
pub record Remembers (old new : Memo) (func_index x y pixel : ℕ) : Type 0 where
  pub each : (at i j : ℕ) → i < 2 ^ 32 → j < 2 ^ 32
      → remembered new at i j ≡ (if at == func_index && i == x && j == y then Some pixel else remembered old at i j)

-- no pixel
pub record KnowsNothing (memo : Memo) : Type 0 where
  pub each : (at i j : ℕ) → remembered memo at i j ≡ None
