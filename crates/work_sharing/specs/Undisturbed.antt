-- A job among the turns of other harts: as long as none of them writes a byte that the job's run alone touches, it is done after as
-- many turns of its hart as its run alone takes, wherever the others' turns stand. This project's own.
use Rattle.std.specs.Prelude.{◌≡◌, ◌≢◌, ℕ, ◌+◌, ◌==◌, if◌then◌else◌, List, [], ◌∷◌, length, slice_get, Bool, true, Some}
use Rattle.memory.specs.Access.{byte_at}
use Rattle.hart_core.specs.HartState.{HartState}
use Rattle.multi_hart.specs.Run.{Within, State, turn, run}
use Rattle.multi_hart_laws.specs.Uses.{Owned, Job, Task, Setup}
use Rattle.multi_hart_laws.specs.Alone.{touches}
use Rattle.work_sharing.specs.Phases.{Phase, Stands}
use Rattle.work_sharing.specs.Solo.{SoonDone}
use Rattle.work_sharing.specs.Turns.{written_next}

-- how many of the turns are the hart's
abbrev pub turns_of : ℕ → List ℕ → ℕ
turns_of hart [] = 0
turns_of hart (turning ∷ turns) = (if turning == hart then 1 else 0) + turns_of hart turns

-- no turn of another hart writes a byte of these
abbrev pub Undisturbed : (ℕ → Bool) → ℕ → State → List ℕ → Type 0
Undisturbed touched hart state [] = Unit {0}
Undisturbed touched hart state (turning ∷ turns) =
    (turning ≢ hart → Within (λ address. touched address ≡ true → ⊥) (written_next state turning))
    × Undisturbed touched hart (turn state turning) turns

-- of what a task owns, these bytes are the phase's result
abbrev pub LeavesAmong : (ℕ → Bool) → Phase → Job → List ℕ → Type 0
LeavesAmong touched phase Setup memory = Unit {0}
LeavesAmong touched phase (Task task) memory =
    (address : ℕ) → touched address ≡ true → phase.uses address ≡ Owned task → byte_at phase.text memory address ≡ phase.result address

abbrev pub DoneAmongOthers : Type 0
DoneAmongOthers =
    (phase : Phase) (job : Job) (number count : ℕ) (state : State) (hart : HartState) (turns : List ℕ)
    → state.text ≡ phase.text → length state.memory ≡ phase.size → slice_get state.harts number ≡ Some hart
    → SoonDone phase job number count hart state.memory
    → let touched = touches phase.text phase.size count hart state.memory in
    Undisturbed touched number state turns → turns_of number turns ≡ count
    → (after : HartState) × (slice_get (run state turns).harts number ≡ Some after)
    × Stands phase number after phase.draw_code × LeavesAmong touched phase job (run state turns).memory
