-- Where marks stop a run that gdb goes on with, forwards and backwards. This project's own.
use Rattle.std.specs.Prelude.{ℕ, zero, suc, ◌+◌, ◌||◌, Bool, if◌then◌else◌, List, [], ◌∷◌, Option, Some, None, is_some}
use Rattle.std.specs.List.{list_any}
use Rattle.debugger.specs.Places.{SessionState, state_at}
use Rattle.debugger.specs.Stops.{break_stops, differs}
use Rattle.multi_hart.specs.Run.{State}

-- the hart of the next turn is on a break
abbrev pub is_on_break : SessionState → ℕ → Bool
is_on_break session place = list_any (break_stops session place) session.breaks

-- the first of these addresses at which the word differs
abbrev pub first_changed : State → State → List ℕ → Option ℕ
first_changed before after [] = None
first_changed before after (address ∷ addresses) =
    if differs before after address then Some address else first_changed before after addresses

-- the first watched word that the last turn before a place changed
abbrev pub changed_before : SessionState → ℕ → Option ℕ
changed_before session zero = None
changed_before session (suc place) = first_changed (state_at session place) (state_at session (suc place)) session.watches

-- Forwards a watch stops before the turn that changes its word: gdb makes that turn itself, and looks.
abbrev pub stops_ahead : SessionState → ℕ → Bool
stops_ahead session place = is_on_break session place || is_some (changed_before session (place + 1))

-- Backwards it stops behind that turn.
abbrev pub stops_behind : SessionState → ℕ → Bool
stops_behind session place = is_on_break session place || is_some (changed_before session place)

-- the least place of this many, from this one on, that keeps a rule
unfoldable pub first_from : (ℕ → Bool) → ℕ → ℕ → Option ℕ
first_from rule place zero = None
first_from rule place (suc others) = if rule place then Some place else first_from rule (suc place) others

-- the greatest place below this one that keeps a rule
unfoldable pub last_below : (ℕ → Bool) → ℕ → Option ℕ
last_below rule zero = None
last_below rule (suc place) = if rule place then Some place else last_below rule place
