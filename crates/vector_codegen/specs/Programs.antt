-- The words of a program: its phases one after the other, each around instructions that do each of its tasks. Which instructions those are isn't
-- said. This project's own.
use Rattle.std.specs.Prelude.{◌≡◌, ◌<◌, ◌≤◌, ◌^◌, ◌+◌, ℕ, suc, List, [], ◌∷◌, length}
use Rattle.std.specs.List.{AllByRecursion}
use Rattle.memory.specs.Access.{most_words, text_start}
use Rattle.multi_hart_laws.specs.Paths.{Stand}
use Rattle.loop_ir.specs.declared.statements.Phase.{Phase}
use Rattle.loop_ir.specs.Depths.{task_depth}
use Rattle.loop_ir.specs.Needs.{greatest_need}
use Rattle.loop_ir.specs.Sizes.{whole_size}
use Rattle.work_sharing.specs.Turns.{ticket_word}
use Rattle.task_code_scalar.specs.declared.CodeFault.{CodeFault}
use Rattle.task_code_scalar.specs.declared.layouts.Places.{Places}
use Rattle.task_code_scalar.specs.Faults.{IsFault, LieLow, HasRoom}
use Rattle.task_code_scalar.specs.Words.{Emits}
use Rattle.task_code.specs.Tasks.{task_size}
pub use Rattle.task_code.specs.Tasks.{CodeStage, DoesTask, EachTaskEnds, HasDrawn, TaskEnds}
use Rattle.vector_codegen.specs.PhaseCode.{Part, ends_from, program}

-- It has the phase's tasks, and its instructions do each of them, where buffers lie so, with the ticket of the phase's number; they are no more than
-- a task asks for.
pub record IsPartOf (places : Places) (number : ℕ) (phase : Phase) (part : Part) : Type 0 where
  pub tasks_are : part.tasks ≡ phase.tasks
  pub does : DoesTask places phase (ticket_word number) part.insns
  pub short : length part.insns ≤ task_size phase

-- one for each of these phases, the first of which has this number
abbrev pub ArePartsOf : Places → ℕ → List Phase → List Part → Type 0
ArePartsOf places number [] [] = Unit {0}
ArePartsOf places number [] (part ∷ parts) = ⊥
ArePartsOf places number (phase ∷ phases) [] = ⊥
ArePartsOf places number (phase ∷ phases) (part ∷ parts) = IsPartOf places number phase part × ArePartsOf places (suc number) phases parts

-- as many tasks as harts can count in a word, with those that they draw in vain
abbrev pub HasFewTasks : Phase → Type 0
HasFewTasks phase = phase.tasks ≤ 2 ^ 31

-- words of a program of parts that do these phases' tasks, no more than a text may have
pub record IsProgram (places : Places) (phases : List Phase) (words : List ℕ) : Type 0 where
  pub parts : List Part
  pub are_parts : ArePartsOf places 0 phases parts
  pub emits : Emits [] words (program 0 parts)
  pub few_tasks : AllByRecursion HasFewTasks phases
  pub few : length words ≤ most_words

-- such words, with where the code of each phase ends in them
pub record IsProgramTo (places : Places) (phases : List Phase) (words ends : List ℕ) : Type 0 where
  pub program : IsProgram places phases words
  pub ends_are : ends ≡ ends_from 0 0 program.parts

-- ---- how long it is

-- the words that a phase asks for: its task's, and those around them
abbrev pub phase_size : Phase → ℕ
phase_size phase = whole_size phase.body + 24

abbrev pub words_asked : List Phase → ℕ
words_asked [] = 0
words_asked (phase ∷ phases) = phase_size phase + words_asked phases

-- ---- why there is no program

-- phases ask for more words than a text may have, or one has too many tasks
abbrev pub IsTooLong : List Phase → Type 0
IsTooLong phases = AllByRecursion HasFewTasks phases → most_words < words_asked phases

-- the expressions of a phase have room on the stack or in a frame, and all counters around a store have registers
abbrev pub HasRegisters : Places → Phase → Type 0
HasRegisters places phase = HasRoom places.frames (greatest_need phase.body) 0 × (task_depth phase ≤ 14)

-- frames lie too high, or some phase hasn't
abbrev pub IsTooDeep : Places → List Phase → Type 0
IsTooDeep places phases = LieLow places.frames → AllByRecursion (HasRegisters places) phases → ⊥

abbrev pub ArePhasesAtFault : Places → List Phase → CodeFault → Type 0
ArePhasesAtFault places phases = IsFault (IsTooLong phases) (IsTooDeep places phases)

-- ---- laws

-- A program has no more words than its phases ask for, wherever buffers lie.
abbrev pub ProgramsAreShort : Type 0
ProgramsAreShort = (places : Places) (phases : List Phase) (words : List ℕ) → IsProgram places phases words → length words ≤ words_asked phases

-- Such words have the program at the beginning of the text.
abbrev pub ProgramsStand : Type 0
ProgramsStand = (places : Places) (phases : List Phase) (words : List ℕ) → (is : IsProgram places phases words) → Stand words text_start (program 0 is.parts)
