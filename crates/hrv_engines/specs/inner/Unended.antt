-- What may be left out of a line of a talk that has not ended. This project's own.
use Rattle.std.specs.Prelude.{◌≡◌, ℕ, List, [], ◌++◌, None}
use Rattle.line_text.specs.Lines.{IsLine}
use Rattle.hrv_engines.specs.Commands.{command_of}

-- whatever follows, both command the same
abbrev pub MeanSame : List ℕ → List ℕ → Type 0
MeanSame line other = (more : List ℕ) → command_of (line ++ more) ≡ command_of (other ++ more)

-- no line that begins so is a command
abbrev pub BeginsNone : List ℕ → Type 0
BeginsNone line = (more : List ℕ) → command_of (line ++ more) ≡ None

-- Of a line and bytes after it these are kept, and they say the same.
pub record IsKeptOf (line bytes kept : List ℕ) : Type 0 where
  pub same : MeanSame (line ++ bytes) kept
  pub is_line : IsLine line → IsLine bytes → IsLine kept
  pub none : line ++ bytes ≡ [] → kept ≡ []
  pub some : kept ≡ [] → line ++ bytes ≡ []
