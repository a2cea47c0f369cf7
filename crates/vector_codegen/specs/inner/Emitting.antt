-- Words of phases that are appended, and why those of one aren't. This project's own.
use Rattle.std.specs.Prelude.{◌≡◌, ◌<◌, ◌≤◌, ◌++◌, ℕ, Bool, List, length}
use Rattle.memory.specs.Access.{most_words}
use Rattle.loop_ir.specs.declared.statements.Phase.{Phase}
use Rattle.work_sharing.specs.Turns.{ticket_word}
use Rattle.task_code_scalar.specs.declared.CodeFault.{CodeFault}
use Rattle.task_code_scalar.specs.declared.layouts.Places.{Places}
use Rattle.task_code_scalar.specs.Faults.{IsFault, LieLow}
use Rattle.task_code_scalar.specs.Words.{Emits}
use Rattle.vector_codegen.specs.PhaseCode.{Part, ends_from, phase_code, program}
use Rattle.vector_codegen.specs.Programs.{ArePartsOf, HasFewTasks, HasRegisters, IsPartOf, phase_size}

-- of the phase with this number
pub record EmitsPhase (old new : List ℕ) (places : Places) (number : ℕ) (is_last : Bool) (phase : Phase) : Type 0 where
  pub part : Part
  pub is_part : IsPartOf places number phase part
  pub emits : Emits old new (phase_code is_last (ticket_word number) part)

-- of phases, the first of which has this number; and to a list is added where the code of each ends
pub record EmitsPhases (old new ends later : List ℕ) (places : Places) (number : ℕ) (phases : List Phase) : Type 0 where
  pub parts : List Part
  pub are_parts : ArePartsOf places number phases parts
  pub emits : Emits old new (program number parts)
  pub ends_are : later ≡ ends ++ ends_from number (length old) parts

-- It fits a word: no text has more words.
abbrev pub IsEnd : ℕ → Type 0
IsEnd end = end ≤ most_words

-- the phase asks for more words than a text may have, or has too many tasks; or it has no registers
abbrev pub IsPhaseAtFault : Places → Phase → CodeFault → Type 0
IsPhaseAtFault places phase = IsFault (HasFewTasks phase → most_words < phase_size phase) (LieLow places.frames → HasRegisters places phase → ⊥)
