-- The machine that an image makes, and what bytes and a number of harts are loaded as.
-- This project's own.
use Rattle.std.specs.Prelude.{◌≡◌, ℕ, ◌≤◌, ◌&&◌, nat_le, if◌then◌else◌, List, Result, Ok, Err}
use Rattle.multi_hart.specs.Run.{State, opened}
use Rattle.loader.specs.declared.faults.LoadFault.{LoadFault}
use Rattle.loader.specs.declared.faults.LoadFault.TheVariants.{HartCount}
use Rattle.loader.specs.Image.{ImageContents, IsImage}
use Rattle.loader.specs.Spelling.{Spells, image_of}

-- a machine at the start, of this many harts
abbrev pub machine_of : ImageContents → ℕ → State
machine_of image harts = opened image.entry image.words image.bytes harts

-- there are 1 to 8 harts
abbrev pub with_harts : ℕ → Result ImageContents LoadFault → Result State LoadFault
with_harts harts (Ok image) = if nat_le 1 harts && nat_le harts 8 then Ok (machine_of image harts) else Err HartCount
with_harts harts (Err fault) = Err fault

-- the bytes are judged first, the number of harts last
abbrev pub loaded : List ℕ → ℕ → Result State LoadFault
loaded bytes harts = with_harts harts (image_of bytes)

-- a machine at the start, of an image that the bytes spell, with 1 to 8 harts
pub record IsLoaded (bytes : List ℕ) (harts : ℕ) (machine : State) : Type 0 where
  pub image : ImageContents
  pub rules : IsImage image
  pub spells : Spells bytes image
  pub some : 1 ≤ harts
  pub few : harts ≤ 8
  pub opened : machine ≡ machine_of image harts
