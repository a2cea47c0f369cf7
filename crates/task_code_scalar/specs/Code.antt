-- Literals and jumps as instructions, and where pixels and frames lie. This project's own.
use Rattle.std.specs.Prelude.{ℕ, ◌+◌, ◌-◌, ◌*◌, ◌/◌, ◌%◌, ◌^◌, nat_lt, if◌then◌else◌, List, [], ◌∷◌, ℤ, pos, negsuc, slice_index_or, Option, Some, None}
use Rattle.rv_insn.specs.declared.instructions.Insn.{Insn}
use Rattle.rv_insn.specs.declared.instructions.Insn.TheVariants.{Lui, AluImm}
use Rattle.rv_insn.specs.declared.operations.AluImmOp.TheVariants.{Addi}
use Rattle.halide_pipeline.specs.declared.expressions.Source.{Source}
use Rattle.halide_pipeline.specs.declared.expressions.Source.TheVariants as sources
use Rattle.task_code_scalar.specs.declared.layouts.BufferLayout.{BufferLayout}
use Rattle.task_code_scalar.specs.declared.layouts.Pixels.{Pixels}
use Rattle.task_code_scalar.specs.declared.layouts.Pixels.TheVariants as pixels
use Rattle.task_code_scalar.specs.declared.layouts.Places.{Places}

-- ---- a number in a register: its upper 20 bits, rounded, and what is added to them, from -2048 to 2047

abbrev pub upper : ℕ → ℕ
upper v = (v + 2048) / 4096 % 2 ^ 20

abbrev pub lower : ℕ → ℤ
lower v = if nat_lt (v % 4096) 2048 then pos (v % 4096) else negsuc (4095 - v % 4096)

abbrev pub literal : ℕ → ℕ → List Insn
literal r v = Lui r (upper v) ∷ AluImm Addi r r (lower v) ∷ []

-- ---- jumps: what they carry of this many words forward, or back

abbrev pub forth : ℕ → ℤ
forth n = pos (2 * n)

abbrev pub back : ℕ → ℤ
back n = negsuc (2 * n - 1)

-- ---- points

abbrev pub nowhere : BufferLayout
nowhere = record { start = 0; width = 0; distance = 0; pixels = pixels.Words }

abbrev pub place_of : Places → Source → BufferLayout
place_of places (sources.Input k) = slice_index_or places.inputs k nowhere
place_of places (sources.Func k) = slice_index_or places.funcs k nowhere

abbrev pub pixel_bytes : Pixels → ℕ
pixel_bytes pixels.Words = 4
pixel_bytes pixels.Bytes = 1

-- of a point of the copy of a hart
abbrev pub address : BufferLayout → ℕ → ℕ → ℕ → ℕ
address layout hart x y = layout.start + layout.distance * hart + pixel_bytes layout.pixels * (y * layout.width + x)

-- ---- frames, where values wait for which registers don't suffice

-- where they begin; 0 where there are none
abbrev pub frames_of : Option ℕ → ℕ
frames_of None = 0
frames_of (Some start) = start

-- how many words each has
abbrev pub frame_words : Option ℕ → ℕ
frame_words None = 0
frame_words (Some start) = 1024
