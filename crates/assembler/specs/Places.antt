-- Where the lines of a text lie: sections, addresses, labels. A label names the address where the rest of its line begins.
-- This project's own.
use Rattle.std.specs.Prelude.{ℕ, ◌+◌, ◌*◌, ◌^◌, min, if◌then◌else◌, ℤ, pos, List, [], ◌∷◌, ◌++◌, Option, Some, None, codes}
use Rattle.std.specs.Str.{bytes_eq}
use Rattle.memory.specs.Access.{text_start, data_start}
use Rattle.assembler_mnemonics.specs.declared.forms.MnemonicForm.{MnemonicForm}
use Rattle.assembler_mnemonics.specs.Named.{form_named}
use Rattle.assembler_syntax.specs.Tokens.{tokens_of}
use Rattle.assembler_syntax.specs.Statements.{head_of}
use Rattle.assembler_syntax.specs.declared.statements.Head.{Head}
use Rattle.assembler.specs.declared.locations.Section.{Section}
use Rattle.assembler.specs.declared.locations.Section.TheVariants.{Text, Data}
use Rattle.assembler.specs.declared.locations.LineLocation.{LineLocation}
use Rattle.assembler.specs.declared.labels.Label.{Label}
use Rattle.assembler.specs.Names.{Named, label_named}
use Rattle.assembler.specs.declared.surveys.Survey.{Survey}
use Rattle.assembler.specs.declared.operations.LineOperation.{LineOperation}
use Rattle.assembler.specs.declared.operations.LineOperation.TheVariants.{Instruction, LoadImmediate, LoadAddress, TextSection, DataSection, Word, Space, Entry}
use Rattle.assembler.specs.declared.operations.LineOperation.TheVariants.{Output}

-- ---- what a mnemonic names: an instruction, one of two that stand for two instructions, or a directive

abbrev pub instruction_named : Option MnemonicForm → Option LineOperation
instruction_named None = None
instruction_named (Some form) = Some (Instruction form)

unfoldable pub operation_named : List ℕ → Option LineOperation
operation_named name =
    if bytes_eq name (codes "li") then Some LoadImmediate
    else if bytes_eq name (codes "la") then Some LoadAddress
    else if bytes_eq name (codes ".text") then Some TextSection
    else if bytes_eq name (codes ".data") then Some DataSection
    else if bytes_eq name (codes ".word") then Some Word
    else if bytes_eq name (codes ".space") then Some Space
    else if bytes_eq name (codes ".entry") then Some Entry
    else if bytes_eq name (codes ".output") then Some Output
    else instruction_named (form_named name)

-- ---- places: the section, and how many words of text and bytes of data stand before; above 2 ^ 60 they count as 2 ^ 60, so that they can be counted

abbrev pub start : LineLocation
start = record { section = Text; words = 0; bytes = 0 }

abbrev pub capped : ℕ → ℕ
capped n = min n (2 ^ 60)

abbrev pub address_in : Section → ℕ → ℕ → ℕ
address_in Text words bytes = text_start + 4 * capped words
address_in Data words bytes = data_start + capped bytes

abbrev pub address : LineLocation → ℕ
address place = address_in place.section place.words place.bytes

abbrev pub after_words : LineLocation → ℕ → LineLocation
after_words place count = record place { words = capped (place.words + count) }

abbrev pub after_bytes : LineLocation → ℕ → LineLocation
after_bytes place count = record place { bytes = capped (place.bytes + count) }

abbrev pub after_word : LineLocation → Section → LineLocation
after_word place Text = after_words place 1
after_word place Data = after_bytes place 4

-- the bytes that `.space` leaves; in text, and where its operand is no number from 0 on, none
abbrev pub after_space : LineLocation → Section → Option ℤ → LineLocation
after_space place Data (Some (pos n)) = after_bytes place n
after_space place section number = place

-- the place after a line's mnemonic, in whichever section it is, and whatever its operands are worth
abbrev pub after_operation : LineLocation → Option ℤ → Option LineOperation → LineLocation
after_operation place number None = place
after_operation place number (Some (Instruction form)) = after_words place 1
after_operation place number (Some LoadImmediate) = after_words place 2
after_operation place number (Some LoadAddress) = after_words place 2
after_operation place number (Some TextSection) = record place { section = Text }
after_operation place number (Some DataSection) = record place { section = Data }
after_operation place number (Some Word) = after_word place place.section
after_operation place number (Some Space) = after_space place place.section number
after_operation place number (Some Entry) = place
after_operation place number (Some Output) = place

abbrev pub named_operation : Option (List ℕ) → Option LineOperation
named_operation None = None
named_operation (Some mnemonic) = operation_named mnemonic

unfoldable pub after : LineLocation → Head → LineLocation
after place head = after_operation place head.number (named_operation head.mnemonic)

-- ---- labels, and the first lines with `.entry` and with `.output`

-- the first definition of a label holds
abbrev pub with_new : List Named → List ℕ → Label → Option Label → List Named
with_new labels name label None = labels ++ (name, label) ∷ []
with_new labels name label (Some first) = labels

abbrev pub with_label : List Named → Label → Option (List ℕ) → List Named
with_label labels label None = labels
with_label labels label (Some name) = with_new labels name label (label_named labels name)

-- the first line stays
abbrev pub or_line : Option ℕ → ℕ → Option ℕ
or_line None line = Some line
or_line (Some first) line = Some first

abbrev pub entry_line : Option ℕ → ℕ → Option LineOperation → Option ℕ
entry_line first line (Some Entry) = or_line first line
entry_line first line operation = first

abbrev pub output_line : Option ℕ → ℕ → Option LineOperation → Option ℕ
output_line first line (Some Output) = or_line first line
output_line first line operation = first

unfoldable pub surveyed_head : Survey → Head → Survey
surveyed_head survey head = record {
  here = record { line = survey.here.line + 1; place = after survey.here.place head };
  labels = with_label survey.labels (record { line = survey.here.line; section = survey.here.place.section; address = address survey.here.place }) head.label;
  entry = entry_line survey.entry survey.here.line (named_operation head.mnemonic);
  output = output_line survey.output survey.here.line (named_operation head.mnemonic);
}

-- the survey after one more line
abbrev pub surveyed_line : Survey → List ℕ → Survey
surveyed_line survey line = surveyed_head survey (head_of (tokens_of line))

unfoldable pub surveyed : Survey → List (List ℕ) → Survey
surveyed survey [] = survey
surveyed survey (line ∷ lines) = surveyed (surveyed_line survey line) lines

-- the survey of a text before its first line, which is number 1
abbrev pub unsurveyed : Survey
unsurveyed = record { here = record { line = 1; place = start }; labels = []; entry = None; output = None }
