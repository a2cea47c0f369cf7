-- The words of a task: of instructions that do each task of a phase (`task_code_statements/specs/Tasks.antt`), no more than the phase asks for.
-- This project's own.
use Rattle.std.specs.Prelude.{◌≡◌, ◌≤◌, ℕ, ◌+◌, ◌*◌, List, ◌++◌, length}
use Rattle.rv_insn.specs.declared.instructions.Insn.{Insn}
use Rattle.memory.specs.Access.{text_start, most_words}
use Rattle.loop_ir.specs.declared.statements.Phase.{Phase}
use Rattle.loop_ir.specs.Sizes.{whole_size}
use Rattle.multi_hart_laws.specs.Paths.{Stand, end}
use Rattle.task_code_scalar.specs.declared.layouts.Places.{Places}
use Rattle.task_code_scalar.specs.Words.{Emits}
pub use Rattle.task_code_statements.specs.Tasks.{DoesTask, EachTaskEnds, HasDrawn, TaskEnds, restored}
pub use Rattle.task_code_statements.specs.declared.stages.CodeStage.{CodeStage}

-- this many words a task asks for: those of its statement, and those that leave what the draw and the gate look for
abbrev pub task_size : Phase → ℕ
task_size phase = whole_size phase.body + 8

-- words are appended of instructions that do each task, no more than it asks for
pub record EmitsTask (old new : List ℕ) (phase : Phase) (places : Places) (ticket : ℕ) : Type 0 where
  pub insns : List Insn
  pub emits : Emits old new insns
  pub does : DoesTask places phase ticket insns
  pub short : length insns ≤ task_size phase

-- ---- words in the text

-- words that were appended stand in each text that goes on from there
pub record StandThere (old new text : List ℕ) (insns : List Insn) : Type 0 where
  pub stand : Stand text (text_start + 4 * length old) insns
  pub end_is : end (text_start + 4 * length old) insns ≡ text_start + 4 * length new

abbrev pub AppendedWordsStand : Type 0
AppendedWordsStand =
    (old new behind text : List ℕ) (insns : List Insn) → Emits old new insns → text ≡ new ++ behind → length text ≤ most_words → StandThere old new text insns
