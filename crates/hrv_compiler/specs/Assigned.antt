-- Every assignment of the iterations of all phases to harts is reached by some list of turns.
--
-- A phase computes a stage; the stages, their iterations and the points that these write are the schedule's
-- (`bounds/specs/Stages.antt`), and a point's bytes lie where the layout has its Func.
-- This project's own.
use Rattle.std.specs.Prelude.{◌≡◌, ◌<◌, ◌≤◌, ℕ, suc, ◌+◌, true, List, ◌∷◌, ◌++◌, length, slice_get, Some, None}
use Rattle.memory.specs.Access.{word_at}
use Rattle.multi_hart.specs.Run.{all_finished, State, run}
use Rattle.halide_pipeline.specs.Pipelines.{Pipeline}
use Rattle.halide_pipeline.specs.Contents.{PictureContents}
use Rattle.halide_pipeline.specs.Pixel.{input_planes}
use Rattle.schedule.specs.declared.schedules.Schedule.{Schedule}
use Rattle.bounds.specs.declared.verdict.Boxes.{Boxes}
use Rattle.loader.specs.Image.{ImageContents}
use Rattle.work_sharing.specs.Turns.{gate_word, Name, last_writer}
use Rattle.bounds.specs.Stages.{StagePosition, stages, iterations, writes}
use Rattle.bounds.specs.Extents.{point_address}
use Rattle.hrv_compiler.specs.Correct.{opening}

-- the address of a byte of a point of a Func at root, counted from the corner of its box
abbrev pub byte_of_point : Boxes → ℕ → ℕ → ℕ → ℕ → ℕ
byte_of_point boxes func x y byte = point_address boxes func x y + byte

module _ (pipeline : Pipeline) (schedule : Schedule) (boxes : Boxes) (pictures : List PictureContents) where
  -- In these turns each byte of the points that an iteration of the stage writes was last written by the hart that the iteration is assigned
  -- to.
  abbrev pub WrittenAs : StagePosition → (ℕ → ℕ) → State → List ℕ → Type 0
  WrittenAs stage assigned begin turns =
      (iteration x y byte : ℕ) → iteration < iterations pipeline schedule boxes stage
      → writes pipeline schedule boxes (input_planes pictures) stage iteration x y ≡ true → byte < 4
      → last_writer (byte_of_point boxes stage.func x y byte) None begin turns ≡ Some (assigned iteration)

  -- That holds up to the first place where the phase's gate word is full: `before` are the turns up to there.
  pub record DoneBy (stage : StagePosition) (phase : ℕ) (assigned : ℕ
      → ℕ) (begin : State) (turns : List ℕ) : Type 0 where
    pub before : List ℕ
    pub after : List ℕ
    pub split : turns ≡ before ++ after
    pub full : word_at (run begin before).text (run begin before).memory (gate_word phase) ≡ length begin.harts
    pub first : (some : List ℕ) (turning : ℕ) (others : List ℕ) → before ≡ some ++ turning ∷ others
        → word_at (run begin some).text (run begin some).memory (gate_word phase) < length begin.harts
    pub writers : WrittenAs stage assigned begin before

  -- A list of turns of these harts after which all have finished, and in which each phase was done as assigned.
  pub record IsReached (image : ImageContents) (harts : ℕ) (assigned : ℕ → ℕ → ℕ) : Type 0 where
    pub turns : List ℕ
    pub named : Name harts turns
    pub finished : all_finished (run (opening image harts) turns) ≡ true
    pub earlier : (phase : ℕ) (stage : StagePosition) → slice_get (stages pipeline schedule boxes) phase ≡ Some stage
        → suc phase < length (stages pipeline schedule boxes)
        → DoneBy stage phase (assigned phase) (opening image harts) turns
    -- the last one has no gate
    pub last : (phase : ℕ) (stage : StagePosition) → slice_get (stages pipeline schedule boxes) phase ≡ Some stage → suc phase
        ≡ length (stages pipeline schedule boxes)
        → WrittenAs stage (assigned phase) (opening image harts) turns

  -- for every number of harts, and each assignment of iterations of phases to them
  abbrev pub IsAssigned : ImageContents → Type 0
  IsAssigned image =
      (harts : ℕ) → 0 < harts → harts ≤ 8 → (assigned : ℕ → ℕ → ℕ) → ((phase iteration : ℕ) → assigned phase iteration < harts) → IsReached image harts assigned
