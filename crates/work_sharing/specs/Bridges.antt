-- From paths of code to tasks: where a task begins a hart is with its own numbers, and a path from there to the draw that keeps
-- what the phase keeps and leaves the task's bytes does the task. This project's own.
use Rattle.std.specs.Prelude.{◌≡◌, ℕ, ◌-◌, ◌/◌, ◌%◌, ◌==◌, nat_lt, if◌then◌else◌, List}
use Rattle.lanes.specs.Words.{element, mask_bit}
use Rattle.hart_core.specs.Scalar.{one_if}
use Rattle.hart_core.specs.HartState.{HartState, register, vector}
use Rattle.multi_hart_laws.specs.Uses.{Job}
use Rattle.multi_hart_laws.specs.Paths.{At, Path}
use Rattle.work_sharing.specs.Phases.{Phase, Stands}
use Rattle.work_sharing.specs.Solo.{world, Leaves, SoonDone}

-- all that a hart holds
abbrev pub numbers_of : HartState → ℕ → ℕ
numbers_of hart n =
    if nat_lt n 32 then register hart n
    else (if n == 32 then hart.vl
    else (if n == 33 then hart.vtype
    else (if nat_lt n 162 then element 32 (vector hart ((n - 34) / 4)) ((n - 34) % 4)
    else one_if (mask_bit (vector hart 0) (n - 162)))))

-- a hart that is at an address of a phase is there with its numbers
abbrev pub StandsThere : Type 0
StandsThere = (phase : Phase) (number address : ℕ) (hart : HartState) → Stands phase number hart address → At address (numbers_of hart) hart

-- the numbers that a phase keeps
pub record Keep (phase : Phase) (number : ℕ) (f : ℕ → ℕ) : Type 0 where
  pub number_is : f 10 ≡ number
  pub harts : f 11 ≡ phase.harts
  pub ticket : f 13 ≡ phase.ticket
  pub gate : f 14 ≡ phase.gate
  pub one : f 15 ≡ 1
  pub tasks : f 16 ≡ phase.tasks

-- and the other way
abbrev pub ThereStands : Type 0
ThereStands = (phase : Phase) (number address : ℕ) (f : ℕ → ℕ) (hart : HartState) → At address f hart → Keep phase number f → Stands phase number hart address

-- a path to the draw does the job
abbrev pub PathDoes : Type 0
PathDoes =
    (phase : Phase) (job : Job) (number from turns : ℕ) (f g : ℕ → ℕ) (hart : HartState) (memory memory' : List ℕ) → At from f hart
    → Path (world phase job number) from phase.draw_code turns f memory g memory' → Keep phase number g → Leaves phase job memory'
    → SoonDone phase job number turns hart memory
