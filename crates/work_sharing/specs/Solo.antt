-- What is asked of the code of a task: its run alone, told forwards from where it begins. Nothing of other harts enters here.
-- This project's own.
use Rattle.std.specs.Prelude.{◌≡◌, ◌<◌, ℕ, suc, ◌+◌, List, length, true, slice_index}
use Rattle.memory.specs.Access.{byte_at, AreBytes}
use Rattle.hart_core.specs.HartState.{HartState}
use Rattle.multi_hart_laws.specs.Uses.{Owned, Job, Task, Setup, Given}
use Rattle.multi_hart_laws.specs.Alone.{World, Soon, Covers}
use Rattle.work_sharing.specs.Phases.{Phase, Stands}

-- where a hart does a job of the phase
abbrev pub world : Phase → Job → ℕ → World
world phase job number = record { text = phase.text; size = phase.size; uses = phase.uses; rule = phase.rule; job = job; hart = number }

-- the bytes that the task owns are the phase's result
abbrev pub Complete : Phase → List ℕ → ℕ → Type 0
Complete phase memory task = (address : ℕ) → phase.uses address ≡ Owned task → byte_at phase.text memory address ≡ phase.result address

abbrev pub Leaves : Phase → Job → List ℕ → Type 0
Leaves phase Setup memory = Unit {0}
Leaves phase (Task task) memory = Complete phase memory task

-- after this many quiet turns of the hart alone the job is done, and the hart is at the draw
abbrev pub SoonDone : Phase → Job → ℕ → ℕ → HartState → List ℕ → Type 0
SoonDone phase job number turns hart memory =
    Soon (world phase job number) (λ after left. Stands phase number after phase.draw_code × Leaves phase job left) turns hart memory

-- a task begins: its number is in x12, and memory has what the task is given
pub record Begins (phase : Phase) (task number : ℕ) (hart : HartState) (memory : List ℕ) : Type 0 where
  pub task_is : task < phase.tasks
  pub number_is : number < phase.harts
  pub stands : Stands phase number hart (phase.draw_code + 8)
  pub drawn : slice_index hart.registers 12 ≡ task
  pub size : length memory ≡ phase.size
  pub bytes : AreBytes memory
  pub given : (address : ℕ) → Given task (phase.uses address) → byte_at phase.text memory address ≡ phase.start address

-- each task, undisturbed
abbrev pub TaskDone : Phase → Type 0
TaskDone phase =
    (task number : ℕ) (hart : HartState) (memory : List ℕ) → Begins phase task number hart memory
    → SoonDone phase (Task task) number (suc (phase.turns (Task task))) hart memory

-- each task, undisturbed, writes every byte that the phase says it writes
abbrev pub TaskWrites : Phase → Type 0
TaskWrites phase =
    (task number : ℕ) (hart : HartState) (memory : List ℕ) → Begins phase task number hart memory
    → (address : ℕ) → phase.uses address ≡ Owned task → phase.writes task address ≡ true
    → Covers phase.text phase.size (suc (phase.turns (Task task))) hart memory address
