-- What a log of turns is: how many harts there are, and which hart made each turn.
-- This project's own.
use Rattle.std.specs.Prelude.{ℕ, ◌^◌, ◌<◌, ◌≤◌, ◌==◌, List, All, count_by}

-- the number of harts, and the hart of each turn, the first turn first
pub record LogState : Type 0 where
  pub harts : ℕ
  pub turns : List ℕ

-- how many of the turns are a hart's
abbrev pub count_of : List ℕ → ℕ → ℕ
count_of turns hart = count_by (λ turn. turn == hart) turns

-- no hart has more turns than these
abbrev pub most_turns : ℕ
most_turns = 2 ^ 40

pub record IsLog (log : LogState) : Type 0 where
  pub some_hart : 1 ≤ log.harts
  pub few_harts : log.harts ≤ 8
  pub turns_below : All (λ turn. turn < log.harts) log.turns
  pub few_turns : (hart : ℕ) → count_of log.turns hart ≤ most_turns
