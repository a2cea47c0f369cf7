-- Copies of pages of data, laid over what was there. What data hold is told by a number for each offset. This project's own.
use Rattle.std.specs.Prelude.{◌≡◌, ℕ, ◌+◌, ◌*◌, ◌/◌, ◌%◌, ◌<◌, ◌≤◌, ◌==◌, Bool, true, false, if◌then◌else◌, List, [], ◌∷◌, length, slice_index, slice_index_or}
use Rattle.std.specs.Prelude.{Option, Some, None}
use Rattle.debugger_writes.specs.declared.pages.PageCopy.{PageCopy}

-- how many pages this many bytes take
abbrev pub pages_of : ℕ → ℕ
pages_of size = (size + 4095) / 4096

-- data hold these bytes
pub record Holds (memory : List ℕ) (f : ℕ → ℕ) : Type 0 where
  pub each : (i : ℕ) → i < length memory → slice_index memory i ≡ f i

-- ---- copies of pages

-- a page laid over what was there, and pages one after the other
abbrev pub laid : PageCopy → (ℕ → ℕ) → ℕ → ℕ
laid copy f i = if (i / 4096) == copy.number then slice_index copy.bytes.items (i % 4096) else f i

abbrev pub over : List PageCopy → (ℕ → ℕ) → ℕ → ℕ
over [] f i = f i
over (copy ∷ copies) f i = over copies (laid copy f) i

-- a whole page of data of this size, or what there is of the last one
pub record IsPage (size : ℕ) (copy : PageCopy) : Type 0 where
  pub there : copy.number * 4096 < size
  pub within : copy.number * 4096 + length copy.bytes.items ≤ size
  pub few : length copy.bytes.items ≤ 4096
  pub whole : (i : ℕ) → i < size → i / 4096 ≡ copy.number → i % 4096 < length copy.bytes.items

-- ---- a place for each page, which holds a copy of it or none

abbrev pub slot_at : List (Option PageCopy) → ℕ → Option PageCopy
slot_at below n = slice_index_or below n None

abbrev pub laid_slot : Option PageCopy → (ℕ → ℕ) → ℕ → ℕ
laid_slot None f i = f i
laid_slot (Some copy) f i = laid copy f i

abbrev pub found : Option PageCopy → ℕ → ℕ → ℕ
found None i byte = byte
found (Some copy) i byte = slice_index copy.bytes.items (i % 4096)

abbrev pub lowest : List (Option PageCopy) → (ℕ → ℕ) → ℕ → ℕ
lowest below f i = found (slot_at below (i / 4096)) i (f i)

pub record AreBelow (size : ℕ) (below : List (Option PageCopy)) : Type 0 where
  pub number : (n : ℕ) (copy : PageCopy) → slot_at below n ≡ Some copy → copy.number ≡ n
  pub page : (n : ℕ) (copy : PageCopy) → slot_at below n ≡ Some copy → IsPage size copy

-- ---- pages that are written

-- a page is marked as written; one that has no mark counts as that
abbrev pub is_written : List Bool → ℕ → Bool
is_written written page = slice_index_or written page true

-- all pages are marked that were, and maybe more
pub record Marked (was now : List Bool) : Type 0 where
  pub flags : length now ≡ length was
  pub stay : (page : ℕ) → is_written now page ≡ false → is_written was page ≡ false

-- data are as they were but for the pages that are marked now, which all are that were
pub record Marks (old new : List ℕ) (was now : List Bool) : Type 0 where
  pub as_many : length new ≡ length old
  pub flags : length now ≡ length was
  pub stay : (page : ℕ) → is_written now page ≡ false → is_written was page ≡ false
  pub kept : (i : ℕ) → i < length old → is_written now (i / 4096) ≡ false → slice_index new i ≡ slice_index old i

-- data hold these bytes but for the pages that are marked
pub record HoldsUnwritten (written : List Bool) (memory : List ℕ) (f : ℕ → ℕ) : Type 0 where
  pub each : (i : ℕ) → i < length memory → is_written written (i / 4096) ≡ false → slice_index memory i ≡ f i
