-- The first place of a list of turns at which two harts race, and what is told of it: the first hart whose next turn writes a byte that
-- another hart's next turn touches too, the first such other hart, and the first such byte in the order in which the turn writes. Places
-- are numbers of turns made, from 0 up to all. This project's own.
use Rattle.std.specs.Prelude.{ℕ, ◌+◌, ◌==◌, ◌||◌, ◌&&◌, not, Bool, if◌then◌else◌, List, [], ◌∷◌, length, Option, Some, None}
use Rattle.hart_core.specs.HartState.{HartState}
use Rattle.hart_core.specs.Turn.{next_of}
use Rattle.multi_hart.specs.Run.{State, is_in, reads, turn, writes}
use Rattle.work_sharing.specs.Turns.{is_byte_of}
use Rattle.race_reports.specs.declared.found.RacingTurns.{RacingTurns}
use Rattle.race_reports.specs.declared.found.FirstRace.{FirstRace}

-- ---- two harts

-- the byte is one that is read or written, and in none of these words
abbrev pub is_shared : List ℕ → List ℕ → List ℕ → ℕ → Bool
is_shared words read written place = (is_in place read || is_in place written) && not (is_byte_of words place)

-- the first such byte of these
abbrev pub first_shared : List ℕ → List ℕ → List ℕ → List ℕ → Option ℕ
first_shared words read written [] = None
first_shared words read written (place ∷ places) =
    if is_shared words read written place then Some place else first_shared words read written places

-- the first byte that the next turn of one hart writes and that of another one touches
abbrev pub shared_by : List ℕ → List ℕ → ℕ → HartState → HartState → Option ℕ
shared_by words text bytes one other =
    first_shared words (reads (next_of text bytes other) other) (writes (next_of text bytes other) other) (writes (next_of text bytes one) one)

-- ---- all harts

abbrev pub told_by : ℕ → ℕ → Option ℕ → Option RacingTurns
told_by writer other None = None
told_by writer other (Some byte) = Some (record { writer = writer; other = other; byte = byte })

abbrev pub or_else : Option RacingTurns → Option RacingTurns → Option RacingTurns
or_else None later = later
or_else (Some told) later = Some told

-- the first of these harts, numbered from `number` on, that touches a byte which the writer's next turn writes
abbrev pub first_other : List ℕ → List ℕ → ℕ → ℕ → HartState → ℕ → List HartState → Option RacingTurns
first_other words text bytes writer one number [] = None
first_other words text bytes writer one number (other ∷ others) =
    or_else (if writer == number then None else told_by writer number (shared_by words text bytes one other))
    (first_other words text bytes writer one (number + 1) others)

-- the first of these harts, numbered from `number` on, that writes what one of all harts touches
abbrev pub first_writer : List ℕ → List ℕ → ℕ → List HartState → ℕ → List HartState → Option RacingTurns
first_writer words text bytes harts number [] = None
first_writer words text bytes harts number (one ∷ ones) =
    or_else (first_other words text bytes number one 0 harts) (first_writer words text bytes harts (number + 1) ones)

-- what is told of a race in a state, outside these words
abbrev pub race_in : List ℕ → State → Option RacingTurns
race_in words state = first_writer words state.text (length state.memory) state.harts 0 state.harts

-- ---- turns

abbrev pub or_later : ℕ → Option RacingTurns → Option FirstRace → Option FirstRace
or_later place None later = later
or_later place (Some turns) later = Some (record { place = place; turns = turns })

-- the first place at which there is a race, where this many turns came before the first of these
abbrev pub first_race : List ℕ → ℕ → State → List ℕ → Option FirstRace
first_race words place state [] = or_later place (race_in words state) None
first_race words place state (hart ∷ turns) = or_later place (race_in words state) (first_race words (place + 1) (turn state hart) turns)
