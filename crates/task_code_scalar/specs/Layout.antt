-- Buffers in memory: where the points lie that code may write or load, and what memory holds there. This project's own.
use Rattle.std.specs.Prelude.{◌≡◌, ◌<◌, ◌≤◌, ◌⊎◌, ℕ, ◌+◌, ◌*◌, ◌%◌, ◌^◌, Bool, true, List}
use Rattle.memory.specs.Access.{Size, Word, number_in, data_start}
use Rattle.multi_hart_laws.specs.Scalar.{load_size}
use Rattle.halide_pipeline.specs.declared.expressions.Source.TheVariants as sources
use Rattle.halide_pipeline.specs.Pixel.{Planes, Reads}
use Rattle.halide_pipeline.specs.Points.{Point}
use Rattle.loop_ir.specs.Buffers.{Points}
use Rattle.multi_hart_laws.specs.Alone.{World}
use Rattle.multi_hart_laws.specs.Paths.{Readable, MayBeWritten, Writable}
use Rattle.multi_hart_laws.specs.Uses.{Owned, Private, Task}
use Rattle.task_code_scalar.specs.declared.layouts.Pixels.TheVariants as pixels
use Rattle.task_code_scalar.specs.declared.layouts.Places.{Places}
use Rattle.task_code_scalar.specs.Code.{place_of, pixel_bytes, address, frames_of, frame_words}
use Rattle.task_code_scalar.specs.Evaluation.{load_op, word_start}

-- ---- one point

abbrev pub func_point : ℕ → ℕ → ℕ → Point
func_point func x y = record { source = sources.Func func; x = x; y = y }

-- the address of a point, of the hart's own copy where each has one
abbrev pub address_of : World → Places → Point → ℕ
address_of world places point = address (place_of places point.source) world.hart point.x point.y

abbrev pub bytes_of : Places → Point → ℕ
bytes_of places point = pixel_bytes (place_of places point.source).pixels

abbrev pub size_of : Places → Point → Size
size_of places point = load_size (load_op (place_of places point.source).pixels)

-- the point is this one of a Func
pub record IsAt (point : Point) (func x y : ℕ) : Type 0 where
  pub source_is : point.source ≡ sources.Func func
  pub column_is : point.x ≡ x
  pub row_is : point.y ≡ y

-- the byte is one of the four of a Func's point
pub record IsOf (world : World) (places : Places) (func x y byte : ℕ) : Type 0 where
  pub above : address_of world places (func_point func x y) ≤ byte
  pub below : byte < address_of world places (func_point func x y) + 4

-- ---- all points

-- a point of a Func may be written, as a word
pub record MayStore (world : World) (places : Places) (func x y : ℕ) : Type 0 where
  pub are_words : (place_of places (sources.Func func)).pixels ≡ pixels.Words
  pub low : address_of world places (func_point func x y) < 2 ^ 32
  pub may : MayBeWritten world Word (address_of world places (func_point func x y))

-- a point of any source may be loaded, and the word that holds it
pub record MayLoad (world : World) (places : Places) (point : Point) : Type 0 where
  pub column : point.x < 2 ^ 32
  pub row : point.y < 2 ^ 32
  pub low : address_of world places point < 2 ^ 32
  pub may : Readable world (size_of places point) (address_of world places point)
  pub whole : Readable world Word (word_start (address_of world places point))

-- the address of a word of the hart's frame
abbrev pub frame_word : World → Places → ℕ → ℕ
frame_word world places word = frames_of places.frames + 4096 * world.hart + 4 * word

-- the byte is none of a word's at the address
abbrev pub Misses : ℕ → ℕ → Type 0
Misses byte address = (byte < address) ⊎ (address + 4 ≤ byte)

-- The hart's frame lies so: no point that may be loaded shares a byte with it, and no task owns a byte of it, so that a turn may write several of
-- its words.
pub record IsFrame (world : World) (places : Places) (loaded : Point → Bool) : Type 0 where
  pub low : (word : ℕ) → word < frame_words places.frames → frame_word world places word < 2 ^ 32
  pub may_write : (word : ℕ) → word < frame_words places.frames → Writable world Word (frame_word world places word)
  pub may_read : (word : ℕ) → word < frame_words places.frames → Readable world Word (frame_word world places word)
  pub apart : (word : ℕ) (point : Point) → word < frame_words places.frames → loaded point ≡ true
      → (address_of world places point + bytes_of places point ≤ frame_word world places word)
      ⊎ (frame_word world places word + 4 ≤ address_of world places point)
  pub unowned : (word byte task : ℕ) → word < frame_words places.frames → frame_word world places word ≤ byte → byte < frame_word world places word + 4
      → world.uses byte ≡ Owned task → ⊥

-- the address of the hart's frame
abbrev pub frame_start : World → Places → ℕ
frame_start world places = frames_of places.frames + 4096 * world.hart

-- A task runs, and the hart's frame lies in the data, is the hart's own, and has no point that may be loaded.
pub record OwnsFrame (world : World) (places : Places) (loaded : Point → Bool) : Type 0 where
  pub task : ℕ
  pub job_is : world.job ≡ Task task
  pub aligned : frame_start world places % 4 ≡ 0
  pub above : data_start ≤ frame_start world places
  pub below : frame_start world places + 4096 ≤ data_start + world.size
  pub low : data_start + world.size ≤ 2 ^ 32
  pub uses : (byte : ℕ) → frame_start world places ≤ byte → byte < frame_start world places + 4096 → world.uses byte ≡ Private world.hart
  pub apart : (point : Point) → loaded point ≡ true
      → (address_of world places point + bytes_of places point ≤ frame_start world places) ⊎ (frame_start world places + 4096 ≤ address_of world places point)

-- The points that may be written lie so, and those that may be loaded. Where bytes of one that is written and one that is loaded meet,
-- both are one point.
pub record Laid (world : World) (places : Places) (written : Points) (loaded : Point → Bool) : Type 0 where
  pub stores : (func x y : ℕ) → written func x y ≡ true → MayStore world places func x y
  pub loads : (point : Point) → loaded point ≡ true → MayLoad world places point
  pub apart : (func x y : ℕ) (point : Point) → written func x y ≡ true → loaded point ≡ true
      → address_of world places point < address_of world places (func_point func x y) + 4
      → address_of world places (func_point func x y) < address_of world places point + bytes_of places point → IsAt point func x y
  pub frame : IsFrame world places loaded

-- memory holds, at each point that may be loaded, what reads of it answer
abbrev pub Holds : World → Places → (Point → Bool) → List ℕ → Reads → Type 0
Holds world places loaded memory reads =
    (point : Point) → loaded point ≡ true → number_in world.text memory (size_of places point) (address_of world places point)
    ≡ reads point.source point.x point.y

-- the byte belongs to no word of the frame from this one on
abbrev pub IsBefore : World → Places → ℕ → ℕ → Type 0
IsBefore world places first byte = (word : ℕ) → first ≤ word → word < frame_words places.frames → Misses byte (frame_word world places word)

-- the byte belongs to no point that may be written, and not to the frame
pub record IsElsewhere (world : World) (places : Places) (written : Points) (byte : ℕ) : Type 0 where
  pub points : (func x y : ℕ) → written func x y ≡ true → Misses byte (address_of world places (func_point func x y))
  pub frame : IsBefore world places 0 byte

-- the planes have a word at each point whose coordinates are words
abbrev pub AreWords : Planes → Type 0
AreWords planes = (place x y : ℕ) → x < 2 ^ 32 → y < 2 ^ 32 → planes place x y < 2 ^ 32
