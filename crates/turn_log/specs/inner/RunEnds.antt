-- A run as a log keeps it: its hart, and how many turns there are up to its end, those of the runs before it with them.
-- This project's own.
use Rattle.std.specs.Prelude.{◌≡◌, ℕ, ◌+◌, ◌*◌, ◌/◌, ◌%◌, ◌^◌}
use Rattle.std.proofs.Common.{arith}

pub record RunEnd : Type 0 where
  pub hart : ℕ
  pub end : ℕ

-- a word is made of its parts
pub word_again : (word : ℕ) → word / 2 ^ 56 * 2 ^ 56 + word % 2 ^ 56 ≡ word
word_again word = omega arith
