-- The object that a text without faulty lines means, and the first faulty line of any other.
-- This project's own.
use Rattle.std.specs.Prelude.{◌≡◌, ℕ, ◌+◌, List, [], ◌∷◌, ◌++◌, length, ◌==◌, if◌then◌else◌, Option, Some, None, Result, Ok, Err}
use Rattle.line_text.specs.Lines.{◌>>=◌, taken_from, lines_of}
use Rattle.memory.specs.Access.{text_start}
use Rattle.loader.specs.Image.{ImageContents}
use Rattle.loader.specs.declared.outputs.Output.{Output}
use Rattle.assembler_mnemonics.specs.Forms.{IsWord}
use Rattle.assembler.specs.Places.{unsurveyed, surveyed, start, after}
use Rattle.assembler.specs.declared.surveys.Survey.{Survey}
use Rattle.assembler.specs.declared.surveys.Here.{Here}
use Rattle.assembler.specs.Judging.{Given, Item, Coded, Raw}
use Rattle.assembler.specs.Lines.{line_given}
use Rattle.assembler_syntax.specs.Tokens.{tokens_of}
use Rattle.assembler_syntax.specs.Statements.{head_of}
use Rattle.assembler.specs.declared.faults.AsmFault.{AsmFault}
use Rattle.assembler.specs.declared.faults.AsmFault.TheVariants.{Syntax}
use Rattle.assembler.specs.declared.locations.LineLocation.{LineLocation}

-- what the lines so far gave, and where the next one lies
pub record Assembled : Type 0 where
  pub here : Here
  pub items : List Item
  pub bytes : List ℕ
  pub entry : Option ℕ
  pub output : Option Output

abbrev pub or_new : {A : Type 0} → Option A → Option A → Option A
or_new (Some a) new = Some a
or_new None new = new

abbrev pub with_given : Assembled → LineLocation → Given → Assembled
with_given so_far behind given = record {
  here = record { line = so_far.here.line + 1; place = behind };
  items = so_far.items ++ given.items;
  bytes = so_far.bytes ++ given.bytes;
  entry = or_new so_far.entry given.entry;
  output = or_new so_far.output given.output;
}

abbrev pub before_first : Assembled
before_first = record { here = record { line = 1; place = start }; items = []; bytes = []; entry = None; output = None }

-- one more line, or its least fault
unfoldable pub taken : Survey → Assembled → List ℕ → Result Assembled AsmFault
taken survey so_far line =
    line_given (record { survey = survey; here = so_far.here }) line
    >>= λ given. Ok (with_given so_far (after so_far.here.place (head_of (tokens_of line))) given)

-- a text of no word is faulty in line 1
abbrev pub worded : Assembled → Result Assembled (ℕ × AsmFault)
worded a = if length a.items == 0 then Err (1, Syntax) else Ok a

-- what a text gives, or its first faulty line and that line's least fault
unfoldable pub assembled : List ℕ → Result Assembled (ℕ × AsmFault)
assembled text =
    taken_from (taken (surveyed unsurveyed (lines_of text))) 1 before_first (lines_of text) >>= worded

-- ---- the object: what an image holds

-- a word is an item's: its number, or the word that the instruction table has for the form and its fields
abbrev pub IsItem : ℕ → Item → Type 0
IsItem word (Raw number) = word ≡ number
IsItem word (Coded form fields) = IsWord word form fields

-- the words are the items', one for each
abbrev pub AreItems : List ℕ → List Item → Type 0
AreItems [] [] = Unit {0}
AreItems (word ∷ words) (item ∷ items) = IsItem word item × AreItems words items
AreItems words items = ⊥

-- a text without `.entry` starts at the first word
abbrev pub entry_or_first : Option ℕ → ℕ
entry_or_first None = text_start
entry_or_first (Some at) = at

pub record IsObject (object : ImageContents) (a : Assembled) : Type 0 where
  pub entry : object.entry ≡ entry_or_first a.entry
  pub words : AreItems object.words a.items
  pub bytes : object.bytes ≡ a.bytes
  pub output : object.output ≡ a.output
