-- What a line gives, or its least fault.
-- This project's own.
use Rattle.std.specs.Prelude.{ℕ, ◌==◌, ◌&&◌, Bool, true, nat_le, List, Option, Some, None, Result, Ok}
use Rattle.memory.specs.Access.{most_words, most_bytes}
use Rattle.line_text.specs.Lines.{◌>>=◌}
use Rattle.assembler_syntax.specs.Tokens.{tokens_of}
use Rattle.assembler_syntax.specs.Statements.{statement_of, head_of}
use Rattle.assembler_syntax.specs.declared.statements.MnemonicLine.{MnemonicLine}
use Rattle.assembler_syntax.specs.declared.statements.Statement.{Statement}
use Rattle.assembler.specs.Faults.{both, or_fault, unless}
use Rattle.assembler.specs.Names.{label_named}
use Rattle.assembler.specs.Places.{operation_named, after}
use Rattle.assembler.specs.declared.labels.Label.{Label}
use Rattle.assembler.specs.Judging.{Context, Given, nothing, performed}
use Rattle.assembler.specs.declared.faults.AsmFault.{AsmFault}
use Rattle.assembler.specs.declared.faults.AsmFault.TheVariants.{Syntax, LabelTwice, TooLarge}
use Rattle.assembler.specs.declared.locations.LineLocation.{LineLocation}

-- the mnemonic and its operands, if the line has one
abbrev pub commanded : Context → Option MnemonicLine → Result Given AsmFault
commanded c None = Ok nothing
commanded c (Some command) = performed c (operation_named command.mnemonic) command.operands

-- a label is this line's
abbrev pub is_own : ℕ → Option Label → Bool
is_own line None = true
is_own line (Some label) = label.line == line

-- the label, if there is one, is defined by no line before
abbrev pub is_new : Context → Option (List ℕ) → Bool
is_new c None = true
is_new c (Some name) = is_own c.here.line (label_named c.survey.labels name)

-- text and data are within the machine's limits
abbrev pub fits : LineLocation → Bool
fits place = nat_le place.words most_words && nat_le place.bytes most_bytes

-- what a command gives, unless it or another judgement of its line has a fault: the least
abbrev pub with_others : Result Given AsmFault → Result (Unit {0} × Unit {0}) AsmFault → Result Given AsmFault
with_others given others = both given others >>= λ judged. Ok judged.0

-- a statement's label, its command, and the place after it: the least of their faults
unfoldable pub stated : Context → LineLocation → Statement → Result Given AsmFault
stated c behind statement =
    with_others (commanded c statement.command) (both (unless LabelTwice (is_new c statement.label)) (unless TooLarge (fits behind)))

-- what a line gives, or its least fault; a syntax fault hides all others
unfoldable pub line_given : Context → List ℕ → Result Given AsmFault
line_given c line =
    or_fault Syntax (statement_of (tokens_of line)) >>= λ statement. stated c (after c.here.place (head_of (tokens_of line))) statement
