-- What memory holds before and after a task: the inputs' pixels, and of Funcs the words at their points.
-- This project's own.
use Rattle.std.specs.Prelude.{◌≡◌, ◌<◌, ◌≤◌, ℕ, ◌^◌, ◌==◌, ◌&&◌, Bool, true, List, length, slice_get, Option}
use Rattle.memory.specs.Access.{byte_at, AreBytes, most_bytes, word_at}
use Rattle.halide_pipeline.specs.declared.expressions.Source.TheVariants as sources
use Rattle.halide_pipeline.specs.Pipelines.{Pipeline}
use Rattle.halide_pipeline.specs.Pixel.{Planes, reads_of}
use Rattle.halide_pipeline.specs.Points.{Point}
use Rattle.schedule.specs.declared.schedules.Schedule.{Schedule}
use Rattle.bounds_ranges.specs.Laws.{AnswerWords}
use Rattle.bounds.specs.declared.boxes.SourceBox.{SourceBox}
use Rattle.multi_hart_laws.specs.Uses.{Owned, Given}
use Rattle.loop_ir.specs.Buffers.{Points}
use Rattle.bounds.specs.Parts.{Input as InputPart}
use Rattle.task_code_scalar.specs.Doing.{Setting, MayBeWrittenAtOnce, HoldsFuncs}
use Rattle.task_code_scalar.specs.Layout.{func_point}
use Rattle.vector_codegen_laws.specs.Uses.{Owners, input_byte, byte_in}
use Rattle.vector_codegen_laws.specs.RunBytes.{RunsAreNamed}
use Rattle.vector_codegen_laws.specs.Points.{RootPoint, part, address_at}
use Rattle.vector_codegen_laws.specs.Settings.{OneOwner, places, size, uses, task_world, IsWritten, IsLoaded}

module _ (pipeline : Pipeline) (schedule : Schedule) (boxes : List (Option SourceBox)) where
  -- ---- planes in memory

  -- the word at each point's address, in the memory of a hart
  abbrev pub funcs_in : List ℕ → List ℕ → ℕ → Planes
  funcs_in text memory hart place x y = word_at text memory (address_at pipeline schedule boxes hart (sources.Func place) x y)

  -- the inputs' bytes stand in memory
  abbrev pub HasInputs : List ℕ → List ℕ → Planes → Type 0
  HasInputs text memory inputs = (address place offset : ℕ) → part pipeline schedule boxes address ≡ InputPart place offset
      → byte_at text memory address ≡ input_byte (slice_get pipeline.inputs place) place inputs offset

  module _ (number : ℕ) (owners : Owners) where
    -- what stays while a task is done
    abbrev pub setting : List ℕ → ℕ → ℕ → ℕ → Planes → Points → Points → (Point → Bool) → Setting
    setting text harts task hart inputs points written loaded = record {
      world = task_world pipeline schedule boxes number owners text task hart;
      harts = harts;
      places = places pipeline schedule boxes;
      inputs = inputs;
      points = points;
      written = written;
      loaded = loaded;
      in_runs = λ func. func == owners.func && owners.in_runs;
      run = λ func x y values. owners.run x y values;
    }

    -- a task of the phase, done by a hart over data that fit
    pub record IsTask (task hart : ℕ) : Type 0 where
      pub few_harts : hart < 8
      pub below : task < owners.tasks
      pub one_owner : OneOwner owners
      pub fits : size pipeline schedule boxes ≤ most_bytes

    -- ---- laws

    -- One turn of a task may write points that it may write, and where points are written in runs, a whole one.
    abbrev pub TasksMayWriteRuns : Type 0
    TasksMayWriteRuns = (text : List ℕ) (harts task hart : ℕ) (inputs : Planes) (points written : Points) (loaded : Point → Bool) → IsTask task hart
        → RunsAreNamed owners
        → ((func x y : ℕ) → written func x y ≡ true → IsWritten pipeline schedule boxes number owners task func x y)
        → MayBeWrittenAtOnce (setting text harts task hart inputs points written loaded)

    -- Any memory of the data's size with the inputs' bytes holds some words at the points that may be loaded.
    abbrev pub MemoryHoldsFuncs : Type 0
    MemoryHoldsFuncs = (text memory : List ℕ) (harts task hart : ℕ) (inputs earlier : Planes) (points written : Points) (loaded : Point → Bool)
        → IsTask task hart
        → length memory ≡ size pipeline schedule boxes → AreBytes memory → AnswerWords pipeline.inputs (reads_of inputs earlier) → HasInputs text memory inputs
        → ((point : Point) → loaded point ≡ true → IsLoaded pipeline schedule boxes number owners task point.source point.x point.y)
        → HoldsFuncs (setting text harts task hart inputs points written loaded) memory (funcs_in text memory hart)

    -- Where a task is given what these planes have, and these are words, it finds them at each point of a Func at root that no other task may
    -- own.
    abbrev pub TasksFindTheirs : Type 0
    TasksFindTheirs = (text memory : List ℕ) (task hart : ℕ) (inputs start : Planes) → IsTask task hart
        → ((address : ℕ) → Given task (uses pipeline schedule boxes number owners address) → byte_at text memory address
        ≡ byte_in pipeline.inputs boxes inputs start (part pipeline schedule boxes address))
        → (func x y : ℕ) → RootPoint pipeline schedule boxes func x y → (func ≡ owners.func → owners.owns task x y ≡ true) → start func x y < 2 ^ 32
        → funcs_in text memory hart func x y ≡ start func x y

    -- Where memory holds Funcs that at the task's points are these planes, its bytes there are theirs.
    abbrev pub TasksLeaveTheirs : Type 0
    TasksLeaveTheirs = (text left : List ℕ) (harts task hart : ℕ) (inputs funcs result : Planes) (points written : Points) (loaded : Point → Bool)
        → IsTask task hart
        → AreBytes left → HoldsFuncs (setting text harts task hart inputs points written loaded) left funcs
        → ((x y : ℕ) → owners.owns task x y ≡ true → RootPoint pipeline schedule boxes owners.func x y)
        → ((x y : ℕ) → owners.owns task x y ≡ true → loaded (func_point owners.func x y) ≡ true)
        → ((x y : ℕ) → owners.owns task x y ≡ true → funcs owners.func x y ≡ result owners.func x y)
        → (address : ℕ) → uses pipeline schedule boxes number owners address ≡ Owned task
        → byte_at text left address ≡ byte_in pipeline.inputs boxes inputs result (part pipeline schedule boxes address)
