-- What a task of a phase may touch in memory: points that it owns and a hart's own copies are written, these and all that no task of the phase
-- writes are loaded.
-- This project's own.
use Rattle.std.specs.Prelude.{◌≡◌, ◌<◌, ◌≤◌, ◌⊎◌, ℕ, Bool, true, List, Option}
use Rattle.halide_pipeline.specs.declared.expressions.Source.{Source}
use Rattle.halide_pipeline.specs.declared.expressions.Source.TheVariants as sources
use Rattle.halide_pipeline.specs.Pipelines.{Pipeline}
use Rattle.halide_pipeline.specs.Points.{Point}
use Rattle.schedule.specs.declared.schedules.Schedule.{Schedule}
use Rattle.memory.specs.Access.{most_bytes}
use Rattle.multi_hart_laws.specs.Uses.{Use, Task}
use Rattle.multi_hart_laws.specs.Alone.{World}
use Rattle.bounds.specs.declared.boxes.SourceBox.{SourceBox}
use Rattle.bounds.specs.Layout.{laid_out}
use Rattle.loop_ir.specs.Buffers.{Points}
use Rattle.task_code_scalar.specs.declared.layouts.Places.{Places}
use Rattle.task_code_scalar.specs.Layout.{Laid}
use Rattle.vector_codegen_laws.specs.Places.{places_of}
use Rattle.vector_codegen_laws.specs.Points.{RootPoint, PrivatePoint, InputPoint, part}
use Rattle.vector_codegen_laws.specs.RunBytes.{rule_of}
use Rattle.vector_codegen_laws.specs.Uses.{Owners, use_of}

-- no point is owned by two tasks
abbrev pub OneOwner : Owners → Type 0
OneOwner owners = (x y first second : ℕ) → first < owners.tasks → second < owners.tasks → owners.owns first x y ≡ true → owners.owns second x y ≡ true
    → first ≡ second

module _ (pipeline : Pipeline) (schedule : Schedule) (boxes : List (Option SourceBox)) where
  abbrev pub places : Places
  places = places_of pipeline schedule boxes (laid_out pipeline schedule boxes)

  abbrev pub size : ℕ
  size = (laid_out pipeline schedule boxes).size

  module _ (number : ℕ) (owners : Owners) where
    abbrev pub uses : ℕ → Use
    uses address = use_of boxes number owners (part pipeline schedule boxes address)

    -- where a hart does a task
    abbrev pub task_world : List ℕ → ℕ → ℕ → World
    task_world text task hart = record {
      text = text;
      size = size;
      uses = uses;
      rule = λ task places. rule_of pipeline schedule boxes owners places;
      job =
          Task task;
      hart = hart;
    }

    abbrev pub IsWritten : ℕ → ℕ → ℕ → ℕ → Type 0
    IsWritten task func x y = (RootPoint pipeline schedule boxes func x y × ((func ≡ owners.func) × (owners.owns task x y ≡ true)))
        ⊎ PrivatePoint pipeline schedule boxes func x y

    abbrev pub IsLoaded : ℕ → Source → ℕ → ℕ → Type 0
    IsLoaded task (sources.Input place) x y = InputPoint pipeline schedule boxes place x y
    IsLoaded task (sources.Func func) x y =
        (RootPoint pipeline schedule boxes func x y × (func ≡ owners.func → owners.owns task x y ≡ true)) ⊎ PrivatePoint pipeline schedule boxes func x y

    pub record Touches (task : ℕ) (written : Points) (loaded : Point → Bool) : Type 0 where
      pub writes : (func x y : ℕ) → written func x y ≡ true → IsWritten task func x y
      pub loads : (point : Point) → loaded point ≡ true → IsLoaded task point.source point.x point.y

    abbrev pub TasksAreLaid : Type 0
    TasksAreLaid = (text : List ℕ) (task hart : ℕ) → hart < 8 → task < owners.tasks → OneOwner owners → size ≤ most_bytes
        → (written : Points) (loaded : Point → Bool) → Touches task written loaded → Laid (task_world text task hart) places written loaded
