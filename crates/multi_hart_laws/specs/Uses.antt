-- What a byte is for while the tasks of one phase are done, and what a task may touch. This project's own.
-- That outputs of two tasks and private copies of two harts are apart holds because these are different uses: of them no premise
-- on disjoint addresses is made. (Where the control words lie is said by address.)
use Rattle.std.specs.Prelude.{◌≡◌, ℕ}

pub data Use : Type 0 where
  -- the words by which harts draw tasks and wait for one another
  Control : Use
  -- what no hart writes in the phase
  Fixed : Use
  -- what one task alone reads and writes
  Owned : (task : ℕ) → Use
  -- what one hart alone reads and writes, of no meaning between its tasks
  Private : (hart : ℕ) → Use

-- code that a hart runs undisturbed: a task, or the way to a phase's draw
pub data Job : Type 0 where
  Task : (task : ℕ) → Job
  Setup : Job

-- what a job may read when the hart does it
abbrev pub MayRead : Job → ℕ → Use → Type 0
MayRead Setup hart purpose = ⊥
MayRead (Task task) hart Control = ⊥
MayRead (Task task) hart Fixed = Unit {0}
MayRead (Task task) hart (Owned owner) = owner ≡ task
MayRead (Task task) hart (Private owner) = owner ≡ hart

-- and what it may write
abbrev pub MayWrite : Job → ℕ → Use → Type 0
MayWrite Setup hart purpose = ⊥
MayWrite (Task task) hart Control = ⊥
MayWrite (Task task) hart Fixed = ⊥
MayWrite (Task task) hart (Owned owner) = owner ≡ task
MayWrite (Task task) hart (Private owner) = owner ≡ hart

-- what a task finds as it was at the phase's start; a private byte may hold anything
abbrev pub Given : ℕ → Use → Type 0
Given task Control = ⊥
Given task Fixed = Unit {0}
Given task (Owned owner) = owner ≡ task
Given task (Private owner) = ⊥

-- what a phase finds in memory as at its start: every byte that is neither for control nor one hart's own
abbrev pub Shared : Use → Type 0
Shared Control = ⊥
Shared Fixed = Unit {0}
Shared (Owned owner) = Unit {0}
Shared (Private owner) = ⊥
