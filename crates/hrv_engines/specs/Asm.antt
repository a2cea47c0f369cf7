-- What an assembly text means: the bytes of the image that it means, or the first refusal.
-- This project's own.
use Rattle.std.specs.Prelude.{◌≡◌, ℕ, List, Option, Some, None, Result, Ok, Err}
use Rattle.loader.specs.Image.{ImageContents, IsImage}
use Rattle.loader.specs.Spelling.{spelled}
use Rattle.loader.specs.declared.formats.Format.TheVariants.{Hrv2}
use Rattle.assembler.specs.Object.{Assembled, assembled}
use Rattle.assembler.specs.Building.{Means}
use Rattle.assembler.specs.declared.faults.AsmFault.{AsmFault}
use Rattle.hrv_engines.specs.declared.faults.Refusal.{Refusal}
use Rattle.hrv_engines.specs.declared.faults.Refusal.TheVariants.{Asm}

-- The text means contents that keep the rules of images, and these bytes spell them in the second format.
pub record IsAssembly (text bytes : List ℕ) : Type 0 where
  pub contents : ImageContents
  pub is_meant : Means text contents
  pub is_image : IsImage contents
  pub is_spelled : bytes ≡ spelled Hrv2 contents

-- why a text is refused: its first faulty line, and the least fault of that line
abbrev pub refused_by : Result Assembled (ℕ × AsmFault) → Option Refusal
refused_by (Ok meaning) = None
refused_by (Err fault) = Some (Asm fault.0 fault.1)

abbrev pub IsRefusedAssembly : List ℕ → Refusal → Type 0
IsRefusedAssembly text refusal = refused_by (assembled text) ≡ Some refusal
