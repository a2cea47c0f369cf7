-- The lines of a log's turns, piece by piece. This project's own.
use Rattle.std.specs.Prelude.{◌≡◌, ℕ, ◌<◌, ◌≤◌, List, [], ◌++◌, drop, length}
use Rattle.multi_hart.specs.Run.{State, run}
use Rattle.turn_traces.specs.TraceText.{lines_from, piece}
use Rattle.turn_traces.specs.declared.wanted.TurnsWanted.{TurnsWanted}

-- The lines from one place of a log on are those of the turns up to another place, and those from there on.
abbrev pub PiecesJoin : Type 0
PiecesJoin =
    (wanted : TurnsWanted) (begin : State) (turns : List ℕ) (place next : ℕ) → place ≤ next → next ≤ length turns
    → lines_from wanted place begin (drop place turns)
    ≡ lines_from wanted place begin (piece turns place next) ++ lines_from wanted next (run begin (piece turns place next)) (drop next turns)

-- After the last number that is wanted there are none.
abbrev pub NoneBehind : Type 0
NoneBehind = (wanted : TurnsWanted) (number : ℕ) (state : State) (turns : List ℕ) → wanted.to < number → lines_from wanted number state turns ≡ []
