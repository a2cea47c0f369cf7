-- The run that is at a place of a list of turns.
-- This project's own.
use Rattle.std.specs.Prelude.{◌≡◌, ℕ, suc, ◌+◌, ◌≤◌, ◌==◌, if◌then◌else◌, List, [], ◌∷◌, ◌++◌, length, drop, replicate, Option, Some, None}

-- how many turns at the front are the hart's
abbrev pub ahead : ℕ → List ℕ → ℕ
ahead hart [] = 0
ahead hart (turn ∷ turns) = if turn == hart then suc (ahead hart turns) else 0

-- the hart of the first turn, and how many turns of it there are in a row
abbrev pub first_run : List ℕ → Option (ℕ × ℕ)
first_run [] = None
first_run (hart ∷ turns) = Some (hart, suc (ahead hart turns))

-- the hart of the turn at a place, and how many turns of it there are in a row from there on
unfoldable pub run_at : List ℕ → ℕ → Option (ℕ × ℕ)
run_at turns place = first_run (drop place turns)

-- This many turns of the hart stand at the place.
pub record Stand (turns : List ℕ) (place hart count : ℕ) : Type 0 where
  pub some : 1 ≤ count
  pub within : place + count ≤ length turns
  pub parts : drop place turns ≡ replicate count hart ++ drop (place + count) turns
