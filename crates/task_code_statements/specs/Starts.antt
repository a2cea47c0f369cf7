-- Where variables stand before a task whose loops may be in parts, and what code does from there. This project's own.
use Rattle.std.specs.Prelude.{◌≡◌, ◌<◌, ℕ, ◌^◌, ◌++◌, Bool, false, if◌then◌else◌, List, [], Option, Some, None}
use Rattle.rv_insn.specs.declared.instructions.Insn.{Insn}
use Rattle.schedule_lines.specs.declared.stages.LoopId.{LoopId}
use Rattle.schedule_lines.specs.declared.stages.LoopId.TheVariants as ids
use Rattle.halide_pipeline.specs.Pixel.{Planes}
use Rattle.loop_ir.specs.declared.expressions.Counter.{Counter}
use Rattle.loop_ir.specs.declared.statements.Phase.{Phase}
use Rattle.loop_ir.specs.declared.statements.Stmt.{Stmt}
use Rattle.loop_ir.specs.Counters.{Values}
use Rattle.loop_ir.specs.Running.{run, task_values}
use Rattle.task_code_borders.specs.Borders.{is_border}
use Rattle.task_code_scalar.specs.declared.layouts.Places.{Places}
use Rattle.task_code_scalar.specs.Doing.{Setting, IsSetting, HoldsFuncs, stored_points}
use Rattle.task_code_scalar.specs.Words.{Emits}
use Rattle.task_code_registers.specs.Doing.{Did}
use Rattle.task_code_registers.specs.Scopes.{IsKept}
use Rattle.task_code_vector_loops.specs.AtOnce.{MayRun}
use Rattle.task_code_statements.specs.Tasks.{HasDrawn, restored}

-- the number at which a variable is that has one
abbrev pub number_in : LoopId → ℕ
number_in (ids.Outer n) = 0
number_in (ids.Inner n) = n
number_in (ids.Whole n) = 0

-- variables of stages stand where they do, and those that no stage has at their numbers
abbrev pub numbered : Values → Values
numbered values counter = if is_border counter then number_in counter.id else values counter

-- where variables stand before a task
abbrev pub starts : Option Counter → ℕ → Values
starts counter task = numbered (task_values counter task)

-- a stage has the variable of the task's number, if there is one
abbrev pub IsOfStages : Option Counter → Type 0
IsOfStages None = Unit {0}
IsOfStages (Some own) = is_border own ≡ false

-- instructions do a statement for each of this many tasks, wherever its number was drawn
abbrev pub DoesStarted : Places → Option Counter → ℕ → Stmt → List Insn → (ℕ → ℕ) → Type 0
DoesStarted places counter tasks body insns turns =
    (setting : Setting) → IsSetting setting → setting.places ≡ places → (task : ℕ) → task < tasks → MayRun setting body (starts counter task)
    → (f : ℕ → ℕ) (memory : List ℕ) (funcs : Planes) → HoldsFuncs setting memory funcs → HasDrawn setting task f
    → Did setting insns (turns task) f memory (IsKept []) (run setting.points setting.inputs body (starts counter task)
    funcs)
    (stored_points setting body (starts counter task) funcs)

-- words of such instructions for a phase's statement, and of those that leave then the numbers that the draw and the gate look for
pub record AppendsStarted (old new : List ℕ) (phase : Phase) (places : Places) (ticket : ℕ) : Type 0 where
  pub insns : List Insn
  pub emits : Emits old new (insns ++ restored ticket phase.tasks)
  pub few : phase.tasks < 2 ^ 32
  pub of_stages : IsOfStages phase.counter
  pub turns : ℕ → ℕ
  pub does : DoesStarted places phase.counter phase.tasks phase.body insns turns
