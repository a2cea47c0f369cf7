-- Each byte is found where the layout has it, and parts lie within the data.
-- This project's own.
use Rattle.std.specs.Prelude.{◌≡◌, ◌<◌, ◌≤◌, ℕ, ◌+◌, ◌*◌, ◌/◌, ◌%◌, List, length, slice_index}
use Rattle.std.specs.List.{AllByRecursion}
use Rattle.bounds.specs.Layout.{data_start, placed, total}
use Rattle.bounds.specs.Parts.{Sizes, Control, Input, Root, Copies, Frame, part_at}

abbrev pub inputs_at : Sizes → ℕ
inputs_at sizes = data_start + 8 * sizes.phases

abbrev pub roots_at : Sizes → ℕ
roots_at sizes = inputs_at sizes + total sizes.inputs

abbrev pub privates_at : Sizes → ℕ
privates_at sizes = roots_at sizes + total sizes.roots

abbrev pub frames_at : Sizes → ℕ
frames_at sizes = privates_at sizes + total sizes.privates

abbrev pub ControlFound : Type 0
ControlFound = (sizes : Sizes) (n : ℕ) → n < 8 * sizes.phases → part_at sizes (data_start + n) ≡ Control (n / 8)

abbrev pub InputsFound : Type 0
InputsFound = (sizes : Sizes) (func_index offset : ℕ) → offset < slice_index sizes.inputs func_index
    → part_at sizes (slice_index (placed (inputs_at sizes) sizes.inputs) func_index + offset) ≡ Input func_index offset

abbrev pub RootsFound : Type 0
RootsFound = (sizes : Sizes) (func_index offset : ℕ) → offset < slice_index sizes.roots func_index
    → part_at sizes (slice_index (placed (roots_at sizes) sizes.roots) func_index + offset) ≡ Root func_index offset

abbrev pub CopiesFound : Type 0
CopiesFound = (sizes : Sizes) (func_index offset : ℕ) → offset < slice_index sizes.privates func_index
    → part_at sizes (slice_index (placed (privates_at sizes) sizes.privates) func_index + offset) ≡ Copies func_index
    offset

abbrev pub FramesFound : Type 0
FramesFound = (sizes : Sizes) (n : ℕ) → part_at sizes (frames_at sizes + n) ≡ Frame (n / 4096)

-- And the other way: what is found to be a byte of the box of a Func computed at root lies where the layout has it.
pub record LiesAt (sizes : Sizes) (address func_index offset : ℕ) : Type 0 where
  pub below : offset < slice_index sizes.roots func_index
  pub address_is : address ≡ slice_index (placed (roots_at sizes) sizes.roots) func_index + offset

abbrev pub RootsLie : Type 0
RootsLie = (sizes : Sizes) (address func_index offset : ℕ) → part_at sizes address ≡ Root func_index offset → LiesAt sizes address func_index offset

-- A part of a list ends where the list ends, or before.
abbrev pub PartsEnd : Type 0
PartsEnd = (start : ℕ) (sizes : List ℕ) (func_index : ℕ) → func_index < length sizes
    → (start ≤ slice_index (placed start sizes) func_index) × (slice_index (placed start sizes) func_index + slice_index sizes func_index ≤ start + total sizes)

-- It begins at a multiple of 4, where the list does and all sizes are multiples of 4.
abbrev pub PartsAligned : Type 0
PartsAligned = (start : ℕ) (sizes : List ℕ) (func_index : ℕ) → func_index < length sizes → start % 4 ≡ 0 → AllByRecursion (λ size. size % 4 ≡ 0) sizes
    → slice_index (placed start sizes) func_index % 4 ≡ 0
