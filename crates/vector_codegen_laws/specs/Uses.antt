-- What bytes are for while the tasks of a phase are done, and what they hold.
-- This project's own.
use Rattle.std.specs.Prelude.{ℕ, zero, suc, ◌*◌, ◌/◌, ◌%◌, ◌==◌, nat_le, if◌then◌else◌, Bool, List, slice_get, slice_index, Option, Some, None}
use Rattle.std.specs.Int.{w32, to_le_bytes}
use Rattle.halide_pipeline.specs.declared.definitions.Input.{Input}
use Rattle.halide_pipeline.specs.Pixel.{Planes}
use Rattle.bounds.specs.declared.boxes.SourceBox.{SourceBox}
use Rattle.bounds.specs.Extents.{box_in, extent, points}
use Rattle.schedule_loops.specs.Visits.{Visit}
use Rattle.loop_ir.specs.Counters.{Values}
use Rattle.multi_hart_laws.specs.Uses.{Use, Control as ForControl, Fixed, Owned, Private}
use Rattle.bounds.specs.Parts.{Part, Control, Input as InputPart, Root, Copies, Frame, Outside}

-- ---- points by their numbers in a buffer

abbrev pub width_in : Option SourceBox → ℕ
width_in None = 0
width_in (Some own) = extent own.x

abbrev pub points_in : Option SourceBox → ℕ
points_in None = 0
points_in (Some own) = points own

abbrev pub width_of : List (Option SourceBox) → ℕ → ℕ
width_of boxes place = width_in (box_in (slice_get boxes place))

-- the bytes of one copy
abbrev pub copy_bytes : List (Option SourceBox) → ℕ → ℕ
copy_bytes boxes place = 4 * points_in (box_in (slice_get boxes place))

-- ---- uses

-- the greatest of the first this many numbers that passes
abbrev pub greatest : ℕ → (ℕ → Bool) → Option ℕ
greatest zero test = None
greatest (suc n) test = if test n then Some n else greatest n test

abbrev pub use_of_owner : Option ℕ → Use
use_of_owner None = Fixed
use_of_owner (Some task) = Owned task

-- the Func that a phase computes, how many tasks the phase has, and which points of the Func each owns; whether a turn that writes one of them
-- writes a whole run, which runs there are, and whether the run that counters' values name has a point
pub record Owners : Type 0 where
  pub func : ℕ
  pub tasks : ℕ
  pub owns : ℕ → ℕ → ℕ → Bool
  pub in_runs : Bool
  pub runs : List (List Visit)
  pub run : ℕ → ℕ → Values → Bool

-- The words of control up to those of the phase with this number are for control; those of later phases stay as they are.
abbrev pub use_of : List (Option SourceBox) → ℕ → Owners → Part → Use
use_of boxes number owners (Control phase) = if nat_le phase number then ForControl else Fixed
use_of boxes number owners (InputPart place offset) = Fixed
use_of boxes number owners (Root place offset) =
    if place == owners.func
    then use_of_owner (greatest owners.tasks (λ task. owners.owns task (offset / 4 % width_of boxes place) (offset / 4 / width_of boxes place)))
    else Fixed
use_of boxes number owners (Copies place offset) = Private (offset / copy_bytes boxes place)
use_of boxes number owners (Frame hart) = Private hart
use_of boxes number owners Outside = ForControl

-- ---- what they hold

abbrev pub byte_of : ℕ → ℕ → ℕ
byte_of n byte = slice_index (to_le_bytes w32 n) byte

-- a byte of an input: of its pixel, or after its pixels
abbrev pub input_byte : Option Input → ℕ → Planes → ℕ → ℕ
input_byte None place inputs offset = 0
input_byte (Some input) place inputs offset =
    if input.is_bytes then inputs place (offset % input.width) (offset / input.width)
    else byte_of (inputs place (offset / 4 % input.width) (offset / 4 / input.width)) (offset % 4)

-- where inputs hold these pixels, and Funcs at root those; all else is 0
abbrev pub byte_in : List Input → List (Option SourceBox) → Planes → Planes → Part → ℕ
byte_in all boxes inputs funcs (Control phase) = 0
byte_in all boxes inputs funcs (InputPart place offset) = input_byte (slice_get all place) place inputs offset
byte_in all boxes inputs funcs (Root place offset) =
    byte_of (funcs place (offset / 4 % width_of boxes place) (offset / 4 / width_of boxes place)) (offset % 4)
byte_in all boxes inputs funcs (Copies place offset) = 0
byte_in all boxes inputs funcs (Frame hart) = 0
byte_in all boxes inputs funcs Outside = 0
