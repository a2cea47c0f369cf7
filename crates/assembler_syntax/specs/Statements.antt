-- What the tokens of a line say: a label, a mnemonic and operands.
-- This project's own, after the assembly syntax of RISC-V Unprivileged ISA 20191213, chapter 25.
use Rattle.std.specs.Prelude.{ℕ, ◌&&◌, Bool, false, nat_le, if◌then◌else◌, ℤ, List, [], ◌∷◌, length, take, Option, Some, None, option_map}
use Rattle.std.specs.List.{list_all}
use Rattle.line_text.specs.Lines.{begins_name, continues_name}
use Rattle.assembler_syntax.specs.declared.tokens.AssemblyToken.{AssemblyToken}
use Rattle.assembler_syntax.specs.declared.tokens.AssemblyToken.TheVariants as t
use Rattle.assembler_syntax.specs.declared.statements.Operand.{Operand}
use Rattle.assembler_syntax.specs.declared.statements.Operand.TheVariants as o
use Rattle.assembler_syntax.specs.declared.statements.MnemonicLine.{MnemonicLine}
use Rattle.assembler_syntax.specs.declared.statements.Statement.{Statement}
use Rattle.assembler_syntax.specs.declared.statements.Head.{Head}

-- ---- labels: a letter or `_`, then letters, digits and `_`, at most 64 bytes

abbrev pub begins_label : List ℕ → Bool
begins_label [] = false
begins_label (byte ∷ bytes) = begins_name byte

abbrev pub is_label : List ℕ → Bool
is_label word = begins_label word && list_all continues_name word && nat_le (length word) 64

-- ---- operands: a word, a number, `number(word)` or `(word)`

unfoldable pub operand_of : List AssemblyToken → Option Operand
operand_of (t.Word word ∷ []) = Some (o.Word word)
operand_of (t.Number number ∷ []) = Some (o.Number number)
operand_of (t.Number number ∷ t.Open ∷ t.Word base ∷ t.Close ∷ []) = Some (o.Based number base)
operand_of (t.Open ∷ t.Word base ∷ t.Close ∷ []) = Some (o.Bracketed base)
operand_of tokens = None

-- a token in front of pieces joins the first of them
abbrev pub joined : AssemblyToken → List (List AssemblyToken) → List (List AssemblyToken)
joined token [] = (token ∷ []) ∷ []
joined token (piece ∷ pieces) = (token ∷ piece) ∷ pieces

-- the pieces between commas: one more than there are commas
unfoldable pub pieces_of : List AssemblyToken → List (List AssemblyToken)
pieces_of [] = [] ∷ []
pieces_of (t.Comma ∷ tokens) = [] ∷ pieces_of tokens
pieces_of (token ∷ tokens) = joined token (pieces_of tokens)

-- each piece is an operand
abbrev pub with_first : Option Operand → Option (List Operand) → Option (List Operand)
with_first None others = None
with_first (Some operand) None = None
with_first (Some operand) (Some operands) = Some (operand ∷ operands)

unfoldable pub all_operands : List (List AssemblyToken) → Option (List Operand)
all_operands [] = Some []
all_operands (piece ∷ pieces) = with_first (operand_of piece) (all_operands pieces)

-- the operands after a mnemonic: none, or pieces between commas
unfoldable pub operands_of : List AssemblyToken → Option (List Operand)
operands_of [] = Some []
operands_of (token ∷ tokens) = all_operands (pieces_of (token ∷ tokens))

-- ---- statements: nothing for a line that is none

abbrev pub commanded : Option (List ℕ) → List ℕ → Option (List Operand) → Option Statement
commanded label mnemonic None = None
commanded label mnemonic (Some operands) = Some (record { label = label; command = Some (record { mnemonic = mnemonic; operands = operands }) })

-- a mnemonic and its operands, or nothing
abbrev pub behind_label : Option (List ℕ) → List AssemblyToken → Option Statement
behind_label label [] = Some (record { label = label; command = None })
behind_label label (t.Word mnemonic ∷ tokens) = commanded label mnemonic (operands_of tokens)
behind_label label (token ∷ tokens) = None

unfoldable pub statement_of : List AssemblyToken → Option Statement
statement_of (t.Word label ∷ t.Colon ∷ tokens) = if is_label label then behind_label (Some label) tokens else None
statement_of tokens = behind_label None tokens

-- the statement with no more than this many of its operands
abbrev pub command_up_to : ℕ → MnemonicLine → MnemonicLine
command_up_to most command = record command { operands = take most command.operands }

abbrev pub up_to : ℕ → Statement → Statement
up_to most statement = record statement { command = option_map (command_up_to most) statement.command }

-- ---- the front of a line, whatever follows: its label, its mnemonic, and how much a number that is its only
-- ---- operand asks for

abbrev pub only_number : List AssemblyToken → Option ℤ
only_number (t.Number number ∷ []) = Some number
only_number tokens = None

abbrev pub command_head : Option (List ℕ) → List AssemblyToken → Head
command_head label (t.Word mnemonic ∷ tokens) = record { label = label; mnemonic = Some mnemonic; number = only_number tokens }
command_head label tokens = record { label = label; mnemonic = None; number = None }

unfoldable pub head_of : List AssemblyToken → Head
head_of (t.Word label ∷ t.Colon ∷ tokens) = command_head (if is_label label then Some label else None) tokens
head_of tokens = command_head None tokens
