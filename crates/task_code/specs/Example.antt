-- One phase of two tasks, each with one store, and a text that spells code of it: the premises of what is promised of tasks, all met
-- at once, and a run from there. There is no loop, no run and no frame in it. This project's own.
--
-- Task t stores 7 + t at column t of the only buffer, which lies after the phase's two words.
use Rattle.std.specs.Prelude.{◌%◌, ◌≡◌, ◌<◌, ℕ, ◌+◌, ◌*◌, ◌-◌, ◌/◌, ◌==◌, ◌&&◌, nat_lt, if◌then◌else◌, Bool, false, List, [], ◌∷◌, length, replicate, Some}
use Rattle.std.specs.Prelude.{None}
use Rattle.memory.specs.Access.{text_start, word_at}
use Rattle.halide_pipeline.specs.declared.expressions.Source.TheVariants as sources
use Rattle.halide_pipeline.specs.Pixel.{Planes}
use Rattle.halide_pipeline.specs.Points.{Point}
use Rattle.schedule_lines.specs.declared.stages.LoopId.TheVariants as ids
use Rattle.loop_ir.specs.declared.expressions.Counter.{Counter}
use Rattle.loop_ir.specs.declared.expressions.Expr.TheVariants as e
use Rattle.loop_ir.specs.declared.expressions.Linear.{Linear}
use Rattle.loop_ir.specs.declared.statements.Phase.{Phase}
use Rattle.loop_ir.specs.declared.statements.Store.{Store}
use Rattle.loop_ir.specs.declared.statements.Stmt.TheVariants as s
use Rattle.loop_ir.specs.Buffers.{Points}
use Rattle.loop_ir.specs.Running.{task_values}
use Rattle.multi_hart_laws.specs.Uses.{Use, Control, Fixed, Owned, Task}
use Rattle.multi_hart_laws.specs.Alone.{World}
use Rattle.multi_hart_laws.specs.Paths.{Path}
use Rattle.task_code_scalar.specs.declared.layouts.Pixels.TheVariants as pixels
use Rattle.task_code_scalar.specs.declared.layouts.BufferLayout.{BufferLayout}
use Rattle.task_code_scalar.specs.declared.layouts.Places.{Places}
use Rattle.task_code_scalar.specs.Doing.{Setting, IsSetting, SoundIn, RunsIn, HoldsFuncs}
use Rattle.task_code_statements.specs.AtOnce.{AtOnceIn}
use Rattle.task_code_statements.specs.Tasks.{HasDrawn}

-- ---- the phase

abbrev pub example_counter : Counter
example_counter = record { func = 0; id = ids.Outer 0 }

-- the counter, and a number more
abbrev pub counted : ℕ → Linear
counted n = record { number = n; terms = (record { counter = example_counter; stride = 1 }) ∷ [] }

abbrev pub example_store : Store
example_store = record { func = 0; x = e.Linear (counted 0); y = e.Number 0; value = e.Linear (counted 7) }

abbrev pub example_phase : Phase
example_phase = record { tasks = 2; counter = Some example_counter; body = s.Store example_store; private = []; bytes = [] }

-- ---- where it runs

abbrev pub example_place : BufferLayout
example_place = record { start = 0x00200008; width = 2; distance = 0; pixels = pixels.Words }

abbrev pub example_places : Places
example_places = record { inputs = []; funcs = example_place ∷ []; frames = None }

abbrev pub example_ticket : ℕ
example_ticket = 0x00200000

-- from 0x00010000 on:
--
--     AluImm Addi 20 12 (pos 7)
--     Shift Slli 15 12 2
--     Lui 13 512
--     Alu Add 15 15 13
--     Store Sw 15 20 (pos 8)
--     Lui 13 512
--     AluImm Addi 13 13 (pos 0)
--     Lui 14 512
--     AluImm Addi 14 14 (pos 4)
--     Lui 15 0
--     AluImm Addi 15 15 (pos 1)
--     Lui 16 0
--     AluImm Addi 16 16 (pos 2)
abbrev pub example_text : List ℕ
example_text =
    0x00760A13
    ∷ 0x00261793
    ∷ 0x002006B7
    ∷ 0x00D787B3
    ∷ 0x0147A423
    ∷ 0x002006B7
    ∷ 0x00068693
    ∷ 0x00200737
    ∷ 0x00470713
    ∷ 0x000007B7
    ∷ 0x00178793
    ∷ 0x00000837
    ∷ 0x00280813
    ∷ []

-- 16 bytes: the phase's two words, and one for each task
abbrev pub example_data : List ℕ
example_data = replicate 16 0

abbrev pub example_uses : ℕ → Use
example_uses address = if nat_lt address 0x00200008 then Control else (if nat_lt address 0x00200010 then Owned ((address - 0x00200008) / 4) else Fixed)

-- the bytes that a turn writes are a multiple of four
abbrev pub writes_words : ℕ → List ℕ → Bool
writes_words task places = length places % 4 == 0

abbrev pub example_world : ℕ → World
example_world task = record { text = example_text; size = 16; uses = example_uses; rule = writes_words; job = Task task; hart = 0 }

abbrev pub nothing : Planes
nothing place x y = 0

abbrev pub its_points : ℕ → Points
its_points task func x y = func == 0 && (x == task && y == 0)

abbrev pub is_its_point : ℕ → Point → Bool
is_its_point task point = elim point.source [ sources.Input k ↦ false | sources.Func k ↦ its_points task k point.x point.y ]

abbrev pub example_setting : ℕ → Setting
example_setting task = record {
  world = example_world task;
  harts = 1;
  places = example_places;
  inputs = nothing;
  points = its_points task;
  written = its_points task;
  loaded = is_its_point task;
  in_runs = λ func. false;
  run = λ func x y values. false;
}

-- ---- what it comes to

-- The setting is one, the phase's statement may run there, and memory holds the buffers; after its code the task's number and 7 stand in the
-- task's word.
pub record ExampleEnds (task : ℕ) (f : ℕ → ℕ) : Type 0 where
  pub good : IsSetting (example_setting task)
  pub sound : SoundIn (example_setting task) example_phase.body (task_values example_phase.counter task)
  pub at_once : AtOnceIn (example_setting task) example_phase.body (task_values example_phase.counter task)
  pub in_runs : RunsIn (example_setting task) example_phase.body (task_values example_phase.counter task)
  pub held : HoldsFuncs (example_setting task) example_data nothing
  pub after : ℕ → ℕ
  pub left : List ℕ
  pub path : Path (example_world task) text_start (text_start + 52) 13 f example_data after left
  pub tasks_are : after 16 ≡ 2
  pub holds : word_at example_text left (0x00200008 + 4 * task) ≡ 7 + task

abbrev pub ExampleIsDone : Type 0
ExampleIsDone = (task : ℕ) (f : ℕ → ℕ) → task < 2 → HasDrawn (example_setting task) task f → ExampleEnds task f
