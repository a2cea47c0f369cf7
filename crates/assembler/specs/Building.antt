-- What a text means, as contracts say it, and words for code that builds an object line by line.
-- This project's own.
use Rattle.std.specs.Prelude.{◌≡◌, ℕ, List, Result, Ok, Err}
use Rattle.line_text.specs.Lines.{Fails, FailsAt}
use Rattle.line_text.specs.declared.read_errors.ReadError.{ReadError}
use Rattle.line_text.specs.declared.read_errors.LocatedError.{LocatedError}
use Rattle.loader.specs.Image.{ImageContents}
use Rattle.assembler_syntax.specs.Tokens.{tokens_of}
use Rattle.assembler_syntax.specs.Statements.{head_of}
use Rattle.assembler.specs.Judging.{Given}
use Rattle.assembler.specs.Lines.{line_given}
use Rattle.assembler.specs.Object.{Assembled, AreItems, IsObject, taken, assembled}
use Rattle.assembler.specs.Places.{after}
use Rattle.assembler.specs.Products.{Makes}
use Rattle.assembler.specs.declared.building.Building.{Building}
use Rattle.assembler.specs.declared.faults.AsmFault.{AsmFault}
use Rattle.assembler.specs.declared.locations.LineLocation.{LineLocation}
use Rattle.assembler.specs.declared.products.LineProduct.{LineProduct}
use Rattle.assembler.specs.declared.surveys.Here.{Here}
use Rattle.assembler.specs.declared.surveys.Survey.{Survey}

-- What was built is what the lines so far gave, with words for instructions.
pub record IsBuilt (building : Building) (a : Assembled) : Type 0 where
  pub here : building.here ≡ a.here
  pub words : AreItems building.words.items a.items
  pub bytes : building.bytes.items ≡ a.bytes
  pub entry : building.entry ≡ a.entry
  pub output : building.output ≡ a.output

-- a faultless line: its product is what the line gives, and the next line lies where it should
pub record GivesProduct (survey : Survey) (here : Here) (line : List ℕ) (product : LineProduct) (behind : LineLocation) : Type 0 where
  pub given : Given
  pub judged : line_given (record { survey = survey; here = here }) line ≡ Ok given
  pub made : Makes product given
  pub next : behind ≡ after here.place (head_of (tokens_of line))

-- What a line gives, or its fault, unless memory ran out.
abbrev pub GivesLine : Survey → Here → List ℕ → Result (LineProduct × LineLocation) (ReadError AsmFault) → Type 0
GivesLine survey here line (Ok done) = GivesProduct survey here line done.0 done.1
GivesLine survey here line (Err error) = Fails error (line_given (record { survey = survey; here = here }) line)

-- the lines up to one more were taken
pub record Took (survey : Survey) (so_far : Assembled) (line : List ℕ) (building : Building) : Type 0 where
  pub next : Assembled
  pub taken_is : taken survey so_far line ≡ Ok next
  pub built : IsBuilt building next

-- What was taken, or the line's fault, unless memory ran out.
abbrev pub TakesLine : Survey → Assembled → List ℕ → Result (Unit {0}) (ReadError AsmFault) → Building → Type 0
TakesLine survey so_far line (Ok done) building = Took survey so_far line building
TakesLine survey so_far line (Err error) building = Fails error (taken survey so_far line)

-- an object that a text means
pub record Means (text : List ℕ) (object : ImageContents) : Type 0 where
  pub meaning : Assembled
  pub assembled_is : assembled text ≡ Ok meaning
  pub object_is : IsObject object meaning

-- The object that a text means, or its first faulty line and that line's least fault, unless memory ran out.
abbrev pub Assembles : List ℕ → Result ImageContents (LocatedError AsmFault) → Type 0
Assembles text (Ok object) = Means text object
Assembles text (Err error) = FailsAt error (assembled text)
