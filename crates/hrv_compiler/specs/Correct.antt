-- What an image does, on 1 to 8 harts and whatever list says which hart makes the next turn: a schedule changes speed and never
-- pixels.
--
-- Only the algorithm's pixels, the image, the run of the machine from it, and how many phases there are, by which the words of control are
-- counted, are named here; nothing of schedules, loops, boxes or code.
-- This project's own.
use Rattle.std.specs.Prelude.{◌≡◌, ◌<◌, ◌≤◌, ◌⊎◌, ℕ, ◌+◌, ◌-◌, ◌*◌, true, List, ◌++◌, length, slice_get, Option, Some, None}
use Rattle.std.specs.List.{concat}
use Rattle.memory.specs.Access.{word_at}
use Rattle.hart_core.specs.declared.harts.Status.TheVariants.{Finished}
use Rattle.hart_core.specs.HartState.{HartState}
use Rattle.multi_hart.specs.Run.{all_finished, State, opened, run}
use Rattle.work_sharing.specs.Turns.{arrived, gate_word, NoTrap, Name, OnlyBy, Waits, are_rounds, times_written, control_words, Race}
use Rattle.halide_pipeline.specs.Pipelines.{Pipeline}
use Rattle.halide_pipeline.specs.Contents.{PictureContents}
use Rattle.halide_pipeline.specs.Pixel.{output_pixel}
use Rattle.loader.specs.Image.{ImageContents}
use Rattle.loader.specs.declared.outputs.Output.{Output}

-- ---- pixels

-- the word of the output's pixel in a column and a row
abbrev pub shown : State → Output → ℕ → ℕ → ℕ
shown state output x y = word_at state.text state.memory (output.address + y * output.stride + 4 * x)

-- The output is a picture of the algorithm's extents, and each of its words is the algorithm's pixel.
pub record ShowsPixels (pipeline : Pipeline) (pictures : List PictureContents) (state : State) (output : Output) : Type 0 where
  pub width : output.width ≡ pipeline.output.width
  pub height : output.height ≡ pipeline.output.height
  pub pixels : (x y : ℕ) → x < output.width → y < output.height → shown state output x y ≡ output_pixel pipeline pictures x y

abbrev pub ShowsOutput : Pipeline → List PictureContents → State → Option Output → Type 0
ShowsOutput pipeline pictures state None = ⊥
ShowsOutput pipeline pictures state (Some output) = ShowsPixels pipeline pictures state output

-- ---- all of it

-- every hart at the entry
abbrev pub opening : ImageContents → ℕ → State
opening image harts = opened image.entry image.words image.bytes harts

-- This many harts, which share the work of this many phases by the words of control.
pub record IsCorrect (pipeline : Pipeline) (pictures : List PictureContents) (phases : ℕ) (image : ImageContents) (harts : ℕ) : Type 0 where
  -- no hart traps
  pub never_traps : (turns : List ℕ) → NoTrap (run (opening image harts) turns)
  -- no race but on the words of control
  pub never_races : (turns : List ℕ) → Race (control_words phases) (run (opening image harts) turns) → ⊥
  -- wherever all harts have finished, the output is the algorithm's
  pub leaves_pixels : (turns : List ℕ) → all_finished (run (opening image harts) turns) ≡ true
      → ShowsOutput pipeline pictures (run (opening image harts) turns) image.output
  -- from everywhere, further turns of these harts make all finish
  pub can_finish : (turns : List ℕ) → (more : List ℕ) × Name harts more × (all_finished (run (opening image harts) (turns ++ more)) ≡ true)
  -- and after any turns this many rounds, in each of which every hart has at least one turn, make all finish; the count
  -- depends on the image and on the number of harts, and not on the turns
  pub fair_ends : (count : ℕ)
      × ((turns : List ℕ) (rounds : List (List ℕ)) → are_rounds harts rounds ≡ true → count ≤ length rounds
      → all_finished (run (opening image harts) (turns ++ concat rounds)) ≡ true)
  -- each hart writes each gate word at most once
  pub gates_once : (turns : List ℕ) (phase hart : ℕ) → phase < phases → times_written hart (gate_word phase) (opening image harts) turns ≤ 1
  -- no gate word falls, whatever turns follow
  pub gates_grow : (turns more : List ℕ) (phase : ℕ) → phase < phases
      → arrived (run (opening image harts) turns) phase ≤ arrived (run (opening image harts) (turns ++ more)) phase
  -- from everywhere a hart that is given turns alone finishes, or waits at the gate of a phase that isn't the last
  pub stops_alone : (turns : List ℕ) (hart : ℕ) → hart < harts
      → (more : List ℕ) × OnlyBy hart more
      × (Waits (phases - 1) hart (opening image harts) (turns ++ more)
      ⊎ ((one : HartState) → slice_get (run (opening image harts) (turns ++ more)).harts hart ≡ Some one → one.status ≡ Finished))

-- for 1 to 8 harts
abbrev pub Correct : Pipeline → List PictureContents → ℕ → ImageContents → Type 0
Correct pipeline pictures phases image = (harts : ℕ) → 0 < harts → harts ≤ 8 → IsCorrect pipeline pictures phases image harts
