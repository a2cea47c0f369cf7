-- What an expression loads: where it lies, that it may be loaded, and that memory holds it. This project's own.
use Rattle.std.specs.Prelude.{◌≡◌, ◌<◌, ℕ, ◌*◌, ◌/◌, ◌^◌, List}
use Rattle.memory.specs.Access.{Word, number_in, AreBytes}
use Rattle.rv_insn.specs.declared.operations.LoadOp.{LoadOp}
use Rattle.rv_insn.specs.declared.operations.LoadOp.TheVariants as load_ops
use Rattle.multi_hart_laws.specs.Scalar.{load_size}
use Rattle.halide_pipeline.specs.declared.expressions.Source.{Source}
use Rattle.halide_pipeline.specs.Pixel.{Reads}
use Rattle.halide_pipeline.specs.Points.{Point}
use Rattle.multi_hart_laws.specs.Alone.{World}
use Rattle.multi_hart_laws.specs.Paths.{Readable}
use Rattle.task_code_scalar.specs.declared.layouts.Pixels.{Pixels}
use Rattle.task_code_scalar.specs.declared.layouts.Pixels.TheVariants as pixels
use Rattle.task_code_scalar.specs.declared.layouts.BufferLayout.{BufferLayout}
use Rattle.task_code_scalar.specs.declared.layouts.Places.{Places}
use Rattle.task_code_scalar.specs.Code.{place_of, address}

-- the numbers that say where a buffer lies are words
pub record IsPlace (layout : BufferLayout) : Type 0 where
  pub start : layout.start < 2 ^ 32
  pub width : layout.width < 2 ^ 32
  pub distance : layout.distance < 2 ^ 32

abbrev pub ArePlaces : Places → Type 0
ArePlaces places = (source : Source) → IsPlace (place_of places source)

abbrev pub load_op : Pixels → LoadOp
load_op pixels.Words = load_ops.Lw
load_op pixels.Bytes = load_ops.Lbu

-- where the word begins that holds a byte
abbrev pub word_start : ℕ → ℕ
word_start byte = byte / 4 * 4

-- a point of a source may be loaded, as may the word that holds it, and memory, which holds bytes, has there what reads of it answer
pub record LoadsAt (world : World) (layout : BufferLayout) (memory : List ℕ) (x y pixel : ℕ) : Type 0 where
  pub low : address layout world.hart x y < 2 ^ 32
  pub may : Readable world (load_size (load_op layout.pixels)) (address layout world.hart x y)
  pub holds : number_in world.text memory (load_size (load_op layout.pixels)) (address layout world.hart x y) ≡ pixel
  pub is_word : pixel < 2 ^ 32
  pub are_bytes : AreBytes memory
  pub whole : Readable world Word (word_start (address layout world.hart x y))

abbrev pub Loads : World → Places → List ℕ → Reads → Point → Type 0
Loads world places memory reads point = LoadsAt world (place_of places point.source) memory point.x point.y (reads point.source point.x point.y)
