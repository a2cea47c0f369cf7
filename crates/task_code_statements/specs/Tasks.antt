-- What instructions do that do each task of a phase, wherever they stand: what the phase's statement does for that task; and they leave the numbers
-- that the draw and the gate look for. Which instructions they are isn't said. This project's own.
use Rattle.std.specs.Prelude.{◌≡◌, ◌<◌, ℕ, ◌+◌, true, List, ◌++◌}
use Rattle.rv_insn.specs.declared.instructions.Insn.{Insn}
use Rattle.memory.specs.Access.{byte_at, AreBytes}
use Rattle.halide_pipeline.specs.Pixel.{Planes}
use Rattle.loop_ir.specs.declared.statements.Phase.{Phase}
use Rattle.loop_ir.specs.Running.{run_task, task_values}
use Rattle.loop_ir.specs.Stores.{is_stored_by_task}
use Rattle.multi_hart_laws.specs.Paths.{Stand, Block, Writes}
use Rattle.task_code_scalar.specs.declared.layouts.Places.{Places}
use Rattle.task_code_scalar.specs.Code.{literal}
use Rattle.task_code_scalar.specs.Layout.{IsOf, IsElsewhere}
use Rattle.task_code_scalar.specs.Doing.{Setting, IsSetting, SoundIn, RunsIn, HoldsFuncs}
use Rattle.task_code_scalar.specs.Words.{Emits}
use Rattle.task_code_vector_loops.specs.AtOnce.{AtOnceIn}

-- where a task begins: its number was drawn
pub record HasDrawn (setting : Setting) (task : ℕ) (f : ℕ → ℕ) : Type 0 where
  pub none : f 0 ≡ 0
  pub number : f 10 ≡ setting.world.hart
  pub all : f 11 ≡ setting.harts
  pub drawn : f 12 ≡ task

-- The instructions come to their end in this many turns, and memory holds what the task leaves.
pub record TaskEnds (setting : Setting) (phase : Phase) (insns : List Insn) (turns ticket task : ℕ) (f : ℕ → ℕ) (memory : List ℕ) (funcs : Planes) : Type 0 where
  pub after : ℕ → ℕ
  pub left : List ℕ
  pub block : Block setting.world insns turns f memory after left
  pub number : after 10 ≡ setting.world.hart
  pub all : after 11 ≡ setting.harts
  pub ticket_is : after 13 ≡ ticket
  pub gate_is : after 14 ≡ ticket + 4
  pub one : after 15 ≡ 1
  pub tasks_are : after 16 ≡ phase.tasks
  pub holds : HoldsFuncs setting left (run_task setting.points setting.inputs phase task funcs)
  pub elsewhere : (byte : ℕ) → IsElsewhere setting.world setting.places setting.written byte → byte_at setting.world.text left byte ≡ byte_at setting.world.text memory byte
  pub are_bytes : AreBytes memory → AreBytes left
  -- every byte of a point at which the task stores is written
  pub writes : (func x y byte at : ℕ) → is_stored_by_task setting.points setting.inputs phase task func x y funcs ≡ true → IsOf setting.world setting.places func x y byte
      → Stand setting.world.text at insns → Writes setting.world at turns f memory byte

-- Each task ends so, in as many turns as are given for it, from wherever its hart has drawn its number and memory holds the buffers.
abbrev pub EachTaskEnds : Places → Phase → ℕ → List Insn → (ℕ → ℕ) → Type 0
EachTaskEnds places phase ticket insns turns =
    (setting : Setting) → IsSetting setting → setting.places ≡ places → (task : ℕ) → task < phase.tasks
    → SoundIn setting phase.body (task_values phase.counter task)
    → AtOnceIn setting phase.body (task_values phase.counter task)
    → RunsIn setting phase.body (task_values phase.counter task)
    → (f : ℕ → ℕ) (memory : List ℕ) (funcs : Planes) → HoldsFuncs setting memory funcs → HasDrawn setting task f
    → TaskEnds setting phase insns (turns task) ticket task f memory funcs

-- These instructions do each task of the phase, wherever they stand, in turns that depend on the task alone.
pub record DoesTask (places : Places) (phase : Phase) (ticket : ℕ) (insns : List Insn) : Type 0 where
  pub turns : ℕ → ℕ
  pub does : EachTaskEnds places phase ticket insns turns

-- words of such instructions are appended
pub record AppendsTask (old new : List ℕ) (phase : Phase) (places : Places) (ticket : ℕ) : Type 0 where
  pub insns : List Insn
  pub emits : Emits old new insns
  pub does : DoesTask places phase ticket insns

-- what leaves the numbers that the draw and the gate look for: the addresses of the ticket and of the gate, 1, and the number of tasks
abbrev pub restored : ℕ → ℕ → List Insn
restored ticket tasks = literal 13 ticket ++ (literal 14 (ticket + 4) ++ (literal 15 1 ++ literal 16 tasks))
