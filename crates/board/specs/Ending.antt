-- What the numbers at a board's end agree with: all that came back.
-- This project's own.
use Rattle.std.specs.Prelude.{◌≡◌, ℕ, ◌<◌, List, slice_index}
use Rattle.board.specs.declared.boards.Closing.{Closing}
use Rattle.board.specs.Rule.{Fits, most_harts}

-- these are the first of the words that fit what came back
pub record Ends (closing : Closing) (numbers : List ℕ) : Type 0 where
  pub words : List ℕ
  pub fits : Fits words closing.gatherer.me.0
  pub same : (hart : ℕ) → hart < most_harts → slice_index numbers hart ≡ slice_index words hart
