-- What stays while a task is done, and what is asked of its statement and of memory. This project's own.
use Rattle.std.specs.Prelude.{◌≡◌, ℕ, ◌<◌, Bool, true, List, length}
use Rattle.memory.specs.Access.{Word, touched, AreBytes}
use Rattle.halide_pipeline.specs.Pixel.{Planes, reads_of}
use Rattle.halide_pipeline.specs.Points.{Point}
use Rattle.loop_ir.specs.declared.statements.Stmt.{Stmt}
use Rattle.loop_ir.specs.Buffers.{Points}
use Rattle.loop_ir.specs.Counters.{Values}
use Rattle.loop_ir.specs.Runs.{stores_in_runs}
use Rattle.loop_ir.specs.Soundness.{is_sound, Have}
use Rattle.loop_ir.specs.Stores.{is_stored_by}
use Rattle.multi_hart_laws.specs.Alone.{World, Keeps}
use Rattle.multi_hart_laws.specs.LaneMemory.{accesses_to}
use Rattle.task_code_scalar.specs.declared.layouts.Places.{Places}
use Rattle.task_code_scalar.specs.Evaluation.{ArePlaces}
use Rattle.task_code_scalar.specs.Layout.{func_point, address_of, Laid, Holds, AreWords}

-- what stays while a task is done: where the hart runs and how many there are, where buffers lie and what inputs hold, which points the
-- Funcs' buffers have, which of them may be written, and which points of any source may be loaded; at which Funcs' points code stores in whole
-- runs of vectorized loops alone, and whether a run of such a Func stores at a point, while the counters outside of its loop stand at some values
pub record Setting : Type 0 where
  pub world : World
  pub harts : ℕ
  pub places : Places
  pub inputs : Planes
  pub points : Points
  pub written : Points
  pub loaded : Point → Bool
  pub in_runs : ℕ → Bool
  pub run : ℕ → ℕ → ℕ → Values → Bool

-- a point is one of this many
pub record IsAmong (n : ℕ) (x y : ℕ → ℕ) (a b : ℕ) : Type 0 where
  pub number : ℕ
  pub below : number < n
  pub x_is : x number ≡ a
  pub y_is : y number ≡ b

-- This many points of a Func are those of one run: all at which it stores, and no others.
pub record AreRun (setting : Setting) (n func : ℕ) (x y : ℕ → ℕ) : Type 0 where
  pub values : Values
  pub each : (k : ℕ) → k < n → setting.run func (x k) (y k) values ≡ true
  pub all : (a b : ℕ) → setting.run func a b values ≡ true → IsAmong n x y a b

-- One turn may write several points, if each may be written, and where their Func is stored in runs, they are a run.
abbrev pub MayBeWrittenAtOnce : Setting → Type 0
MayBeWrittenAtOnce setting = (n func : ℕ) (x y : ℕ → ℕ) → ((k : ℕ) → k < n → setting.written func (x k) (y k) ≡ true)
    → (setting.in_runs func ≡ true → AreRun setting n func x y)
    → Keeps setting.world (touched (accesses_to Word n (λ k. address_of setting.world setting.places (func_point func (x k) (y k)))))

pub record IsSetting (setting : Setting) : Type 0 where
  pub are_places : ArePlaces setting.places
  pub laid : Laid setting.world setting.places setting.written setting.loaded
  pub have : Have setting.written setting.points
  pub are_words : AreWords setting.inputs
  pub at_once : MayBeWrittenAtOnce setting

-- a statement writes and loads what it may, whatever words buffers hold
abbrev pub SoundIn : Setting → Stmt → Values → Type 0
SoundIn setting statement values =
    (funcs : Planes) → AreWords funcs → is_sound (reads_of setting.inputs funcs) setting.written setting.loaded statement values ≡ true

-- it stores at points of Funcs that are stored in runs by such runs alone, whatever words buffers hold
abbrev pub RunsIn : Setting → Stmt → Values → Type 0
RunsIn setting statement values = (funcs : Planes) → AreWords funcs → (func : ℕ) → setting.in_runs func ≡ true
    → (x y : ℕ)
    → stores_in_runs (reads_of setting.inputs funcs) func x y (setting.run func x y) statement values ≡ true

-- memory holds bytes, and these buffers
pub record HoldsFuncs (setting : Setting) (memory : List ℕ) (funcs : Planes) : Type 0 where
  pub size : length memory ≡ setting.world.size
  pub are_bytes : AreBytes memory
  pub are_words : AreWords funcs
  pub holds : Holds setting.world setting.places setting.loaded memory (reads_of setting.inputs funcs)

-- the points of Funcs at which a statement's run stores
abbrev pub stored_points : Setting → Stmt → Values → Planes → Points
stored_points setting statement values funcs func x y = is_stored_by setting.points setting.inputs func x y statement
    values funcs
