-- Every fair list ends. A list of turns is fair as long as every hart goes on having turns, and how far it has come is told by rounds: in a
-- round every hart has at least one turn. This many rounds are enough for all harts to finish, whatever turns came before, whichever
-- turns each round has, and in whatever order. The count depends on the phases alone, and not on the list. This project's own.
use Rattle.std.specs.Prelude.{◌≡◌, ◌≤◌, ℕ, zero, suc, ◌+◌, ◌*◌, true, List, ◌++◌, length, slice_get, Some}
use Rattle.std.specs.List.{concat}
use Rattle.hart_core.specs.declared.harts.Status.TheVariants.{Finished}
use Rattle.hart_core.specs.HartState.{HartState}
use Rattle.multi_hart.specs.Run.{all_finished, State, run}
use Rattle.multi_hart_laws.specs.Uses.{Task, Setup}
use Rattle.work_sharing.specs.Phases.{Phase}
use Rattle.work_sharing.specs.Programs.{Program, Opens, start}
use Rattle.work_sharing.specs.Turns.{arrived, are_rounds}

-- ---- how many are enough

-- this many numbers, added up: those of 0, of 1, and so on
abbrev pub sum_below : ℕ → (ℕ → ℕ) → ℕ
sum_below zero number_of = 0
sum_below (suc count) number_of = sum_below count number_of + number_of count

-- At most this many turns bring a phase on, all harts together. Each task: the draw, the branch after it, and its own. Each hart: at most three
-- out of the gate before (a branch back, a load, a branch on), which the first phase hasn't; the way to the draw; and then a draw that finds no
-- task, the branch after it and the door. Whoever looks at a gate that isn't full brings nothing on, and isn't counted.
abbrev pub turns_of_phase : Phase → ℕ
turns_of_phase phase = sum_below phase.tasks (λ task. phase.turns (Task task) + 3) + phase.harts * (phase.turns Setup + 7)

-- in each round some turn brings the phase on, so long as not all harts have finished
abbrev pub enough_rounds : (ℕ → Phase) → ℕ → ℕ
enough_rounds phases last = sum_below (suc last) (λ k. turns_of_phase (phases k))

-- after any list of turns, that many rounds (or more) make all harts finish
abbrev pub FairEnds : Type 0
FairEnds =
    (phases : ℕ → Phase) (last entry : ℕ) (memory : List ℕ) → Program phases last → Opens (phases 0) entry memory
    → (turns : List ℕ) (rounds : List (List ℕ)) → are_rounds (phases 0).harts rounds ≡ true → enough_rounds phases last ≤ length rounds
    → all_finished (run (start (phases 0) entry memory) (turns ++ concat rounds)) ≡ true

-- ---- what is done stays done

-- a hart that has finished is left as it is, whatever turns follow, on any machine
abbrev pub FinishedStays : Type 0
FinishedStays =
    (state : State) (turns : List ℕ) (number : ℕ) (hart : HartState) → slice_get state.harts number ≡ Some hart → hart.status ≡ Finished
    → slice_get (run state turns).harts number ≡ Some hart

-- no gate word falls, whatever turns follow
abbrev pub GatesGrow : Type 0
GatesGrow =
    (phases : ℕ → Phase) (last entry : ℕ) (memory turns more : List ℕ) → Program phases last → Opens (phases 0) entry memory
    → (k : ℕ) → k ≤ last
    → let begin = start (phases 0) entry memory in arrived (run begin turns) k ≤ arrived (run begin (turns ++ more)) k
