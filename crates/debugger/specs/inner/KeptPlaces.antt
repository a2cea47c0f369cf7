-- What kept places hold: the state at each, as pages laid over those of the places before it. This project's own.
use Rattle.std.specs.Prelude.{◌≡◌, ◌⊎◌, ℕ, ◌%◌, ◌≤◌, List, [], ◌∷◌, ◌++◌, All, Bool, drop, if◌then◌else◌, length, nat_lt, slice_index, take, None}
use Rattle.multi_hart.specs.Run.{State, run}
use Rattle.turn_log.specs.TurnLog.{LogState}
use Rattle.loader.specs.Image.{ImageContents}
use Rattle.loader.specs.Loading.{machine_of}
use Rattle.debugger_writes.specs.Pages.{AreBelow, Holds, HoldsUnwritten, IsPage, lowest, over, pages_of, slot_at}
use Rattle.debugger.specs.declared.kept.KeptPlaces.{KeptPlaces}
use Rattle.debugger.specs.declared.kept.KeptPlace.{KeptPlace}

-- what data hold at the last of some places, where they held this before the first
abbrev pub last_of : (ℕ → ℕ) → List KeptPlace → ℕ → ℕ
last_of f [] i = f i
last_of f (copy ∷ copies) i = last_of (over copy.pages.items f) copies i

-- and where the first lies over the pages of those that were let go, which lie over the image's data
abbrev pub first_of : ImageContents → KeptPlaces → ℕ → ℕ
first_of image kept = lowest kept.below.items (slice_index image.bytes)

abbrev pub last_kept : ImageContents → KeptPlaces → ℕ → ℕ
last_kept image kept = last_of (first_of image kept) kept.places.items

-- the pages of a place are pages of data of this size
abbrev pub ArePages : ℕ → KeptPlace → Type 0
ArePages size copy = All (IsPage size) copy.pages.items

-- Applied to what data held before, a kept place gives the state there, which depends on the image and on the log alone.
pub record IsKept (image : ImageContents) (log : LogState) (f : ℕ → ℕ) (copy : KeptPlace) : Type 0 where
  pub within : copy.place ≤ length log.turns
  pub every : copy.place % 4096 ≡ 0
  pub pages : ArePages (length image.bytes) copy
  pub harts : copy.harts.items ≡ (run (machine_of image log.harts) (take copy.place log.turns)).harts
  pub holds : Holds (run (machine_of image log.harts) (take copy.place log.turns)).memory (over copy.pages.items f)

abbrev pub AreKept : ImageContents → LogState → (ℕ → ℕ) → List KeptPlace → Type 0
AreKept image log f [] = Unit {0}
AreKept image log f (copy ∷ copies) = IsKept image log f copy × AreKept image log (over copy.pages.items f) copies

-- all places are kept so, and data of a machine are those of the last one but for the pages that are marked
pub record KeptFits (image : ImageContents) (log : LogState) (kept : KeptPlaces) (memory : List ℕ) : Type 0 where
  pub slots : length kept.below.items ≡ pages_of (length image.bytes)
  pub flags : length kept.written.items ≡ pages_of (length image.bytes)
  pub below : AreBelow (length image.bytes) kept.below.items
  pub places : AreKept image log (first_of image kept) kept.places.items
  pub last : HoldsUnwritten kept.written.items memory (last_kept image kept)

-- what a machine of such data and this many harts has to be for places to be put back
pub record CanPutBack (size many : ℕ) (kept : KeptPlaces) : Type 0 where
  pub below : AreBelow size kept.below.items
  pub pages : All (ArePages size) kept.places.items
  pub harts : All (λ (copy : KeptPlace). length copy.harts.items ≡ many) kept.places.items

-- no place is kept, over this many pages
pub record AreFree (pages : ℕ) (kept : KeptPlaces) : Type 0 where
  pub slots : length kept.below.items ≡ pages
  pub flags : length kept.written.items ≡ pages
  pub empty : (n : ℕ) → slot_at kept.below.items n ≡ None
  pub none : kept.places.items ≡ []

-- the state of a machine at a place, by the pages that were written
pub record IsCopy (place : ℕ) (machine : State) (written : List Bool) (copy : KeptPlace) : Type 0 where
  pub place_is : copy.place ≡ place
  pub harts : copy.harts.items ≡ machine.harts
  pub pages : ArePages (length machine.memory) copy
  pub holds : (f : ℕ → ℕ) → HoldsUnwritten written machine.memory f → Holds machine.memory (over copy.pages.items f)

-- ---- how many places are kept, and which of them is gone back to

abbrev pub most_kept : ℕ
most_kept = 16

-- where as many are kept as may be, all but the first
abbrev pub room_for_one : List KeptPlace → List KeptPlace
room_for_one copies = if nat_lt (length copies) most_kept then copies else drop 1 copies

-- One more is kept after the last ones of those before, 16 with it at most; or it isn't, where there was no memory for it.
abbrev pub AreLastKept : List KeptPlace → KeptPlace → List KeptPlace → Type 0
AreLastKept before copy after = (after ≡ room_for_one before ++ copy ∷ []) ⊎ (after ≡ room_for_one before)
