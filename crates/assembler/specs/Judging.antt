-- What an operand gives in its slot, and what a line gives: words and bytes, or its least fault.
-- This project's own; that `li` and `la` are LUI and ADDI is of RISC-V Unprivileged ISA 20191213, chapter 25.
use Rattle.line_text.specs.Lines.{◌>>=◌}
use Rattle.std.specs.Prelude.{ℕ, ◌+◌, ◌*◌, ◌/◌, ◌%◌, ◌^◌, ◌==◌, ◌&&◌, Bool, not, nat_lt, nat_le, if◌then◌else◌, true, ℤ, pos, negsuc, ◌-ℤ◌, List, [], ◌∷◌, ◌++◌}
use Rattle.std.specs.Prelude.{replicate, codes, Option, Some, None, option_map, Result, Ok, Err}
use Rattle.std.specs.Prelude.{unsigned_abs}
use Rattle.std.specs.Int.{w32, to_le_bytes, cast_unsigned, int_rem_euclid, int_shr}
use Rattle.std.specs.Int.Signed.{le_z}
use Rattle.std.specs.Ordering.{int_eq}
use Rattle.std.specs.Str.{bytes_eq}
use Rattle.memory.specs.Access.{is_text_word, most_bytes}
use Rattle.rv_insn.specs.Encoding.{signed}
use Rattle.rv_insn.specs.declared.operations.AluImmOp.TheVariants.{Addi}
use Rattle.loader.specs.Image.{is_output, most_pixels}
use Rattle.loader.specs.declared.outputs.Output.{Output as Picture}
use Rattle.assembler_mnemonics.specs.declared.forms.MnemonicForm.{MnemonicForm}
use Rattle.assembler_mnemonics.specs.declared.forms.MnemonicForm.TheVariants as f
use Rattle.assembler_mnemonics.specs.declared.slots.Slot.{Slot}
use Rattle.assembler_mnemonics.specs.declared.slots.Slot.TheVariants as s
use Rattle.assembler_mnemonics.specs.Slots.{shape, blank}
use Rattle.assembler_mnemonics.specs.Placing.{placed}
use Rattle.assembler_mnemonics.specs.Registers.{integer_letter, vector_letter, register_number}
use Rattle.assembler_mnemonics.specs.Configuration.{vtype_named}
use Rattle.assembler_syntax.specs.Statements.{is_label}
use Rattle.assembler_syntax.specs.declared.statements.Operand.{Operand}
use Rattle.assembler_syntax.specs.declared.statements.Operand.TheVariants as o
use Rattle.assembler.specs.Faults.{both, or_fault, unless}
use Rattle.assembler.specs.Names.{label_named}
use Rattle.assembler.specs.Places.{address}
use Rattle.assembler.specs.declared.labels.Label.{Label}
use Rattle.assembler.specs.declared.surveys.Survey.{Survey}
use Rattle.assembler.specs.declared.surveys.Here.{Here}
use Rattle.assembler.specs.declared.faults.AsmFault.{AsmFault}
use Rattle.assembler.specs.declared.faults.AsmFault.TheVariants.{Syntax, Mnemonic, Register, Immediate, UnknownLabel, Target, TooLarge}
use Rattle.assembler.specs.declared.locations.Section.{Section}
use Rattle.assembler.specs.declared.locations.Section.TheVariants.{Text, Data}
use Rattle.assembler.specs.declared.operations.LineOperation.{LineOperation}
use Rattle.assembler.specs.declared.operations.LineOperation.TheVariants.{Instruction, LoadImmediate, LoadAddress, TextSection, DataSection, Word, Space, Entry}
use Rattle.assembler.specs.declared.operations.LineOperation.TheVariants.{Output}

-- what is known while a line is judged: what all lines come to, and the line's own number and place
pub record Context : Type 0 where
  pub survey : Survey
  pub here : Here

abbrev pub section : Context → Section
section c = c.here.place.section

-- ---- parts of operands

abbrev pub is_within : ℤ → ℤ → ℤ → Bool
is_within least greatest number = le_z least number && le_z number greatest

abbrev pub number_within : ℤ → ℤ → ℤ → Result ℤ AsmFault
number_within least greatest number = if is_within least greatest number then Ok number else Err Immediate

abbrev pub register_named : ℕ → List ℕ → Result ℕ AsmFault
register_named letter word = or_fault Register (register_number letter word)

abbrev pub register_of : ℕ → List ℕ → Result ℤ AsmFault
register_of letter word = register_named letter word >>= λ n. Ok (pos n)

-- the label that a word names
abbrev pub labelled : Survey → List ℕ → Result Label AsmFault
labelled survey word = if is_label word then or_fault UnknownLabel (label_named survey.labels word) else Err Syntax

-- and its address
abbrev pub referenced : Survey → List ℕ → Result ℕ AsmFault
referenced survey word = labelled survey word >>= λ label. Ok label.address

abbrev pub is_odd : ℤ → Bool
is_odd bytes = not (int_eq (int_rem_euclid bytes (pos 2)) (pos 0))

-- half-words from -reach to reach - 1
abbrev pub reached : ℤ → ℤ → Option ℤ
reached reach halves = if is_within (pos 0 -ℤ reach) (reach -ℤ pos 1) halves then Some halves else None

-- a distance of this many bytes, as half-words; where it is odd it has this fault
abbrev pub halves_of : ℤ → AsmFault → ℤ → Result ℤ AsmFault
halves_of reach odd bytes = if is_odd bytes then Err odd else or_fault Target (reached reach (int_shr bytes 1))

-- a target: an even number of bytes, or a label, from the line's own address on
abbrev pub halves_to : Here → ℤ → ℕ → Result ℤ AsmFault
halves_to here reach target = halves_of reach Target (pos target -ℤ pos (address here.place))

abbrev pub halves_to_label : Survey → Here → ℤ → List ℕ → Result ℤ AsmFault
halves_to_label survey here reach label = referenced survey label >>= halves_to here reach

-- ---- an operand in its slot: the fields that it gives

abbrev pub in_field : ℕ → Result ℤ AsmFault → Result (List (ℕ × ℤ)) AsmFault
in_field field judged = judged >>= λ number. Ok ((field, number) ∷ [])

abbrev pub in_fields : ℕ → ℕ → Result (ℤ × ℤ) AsmFault → Result (List (ℕ × ℤ)) AsmFault
in_fields first second judged = judged >>= λ numbers. Ok ((first, numbers.0) ∷ (second, numbers.1) ∷ [])

abbrev pub based : ℕ → ℕ → ℤ → List ℕ → Result (List (ℕ × ℤ)) AsmFault
based offset base number word =
    in_fields offset base (both (number_within (negsuc 2047) (pos 2047) number) (register_of integer_letter word))

-- the mask clears its field
abbrev pub masked : ℕ → List ℕ → Result (List (ℕ × ℤ)) AsmFault
masked field word = unless Syntax (bytes_eq word (codes "v0.t")) >>= λ _. Ok ((field, pos 0) ∷ [])

unfoldable pub given : Context → Slot → Operand → Result (List (ℕ × ℤ)) AsmFault
given c (s.Integer field) (o.Word word) = in_field field (register_of integer_letter word)
given c (s.Integer field) operand = Err Syntax
given c (s.Vector field) (o.Word word) = in_field field (register_of vector_letter word)
given c (s.Vector field) operand = Err Syntax
given c s.MaskRegister (o.Word word) = unless Register (bytes_eq word (codes "v0")) >>= λ _. Ok []
given c s.MaskRegister operand = Err Syntax
given c (s.Number field least greatest) (o.Number number) = in_field field (number_within least greatest number)
given c (s.Number field least greatest) operand = Err Syntax
given c (s.Upper field) (o.Number number) = in_field field (number_within (pos 0) (pos 1048575) number)
given c (s.Upper field) operand = Err Syntax
given c (s.Based offset base) (o.Based number word) = based offset base number word
given c (s.Based offset base) operand = Err Syntax
given c (s.Address base) (o.Bracketed word) = in_field base (register_of integer_letter word)
given c (s.Address base) operand = Err Syntax
given c (s.Target field reach) (o.Number number) = in_field field (halves_of reach Syntax number)
given c (s.Target field reach) (o.Word word) = in_field field (halves_to_label c.survey c.here reach word)
given c (s.Target field reach) operand = Err Syntax
given c (s.Configuration field greatest) (o.Number number) = in_field field (number_within (pos 0) greatest number)
given c (s.Configuration field greatest) operand = Err Syntax
given c (s.Mask field) (o.Word word) = masked field word
given c (s.Mask field) operand = Err Syntax

-- a vtype by its four names, as the number that it is
abbrev pub type_within : ℤ → Option ℕ → Result ℤ AsmFault
type_within greatest vtype = or_fault Syntax vtype >>= λ n. number_within (pos 0) greatest (pos n)

abbrev pub named_type : ℕ → ℤ → Option ℕ → Result (List (ℕ × ℤ)) AsmFault
named_type field greatest vtype = in_field field (type_within greatest vtype)

abbrev pub appended : Result (List (ℕ × ℤ) × List (ℕ × ℤ)) AsmFault → Result (List (ℕ × ℤ)) AsmFault
appended judged = judged >>= λ pairs. Ok (pairs.0 ++ pairs.1)

-- a slot without an operand: only a mask may be left out, as the last
abbrev pub left_out : Slot → List Slot → Result (List (ℕ × ℤ)) AsmFault
left_out (s.Mask field) [] = Ok []
left_out slot slots = Err Syntax

-- the vtype that four names say, if the operands are four words
abbrev pub four_names : List Operand → Option (Option ℕ)
four_names (o.Word width ∷ o.Word group ∷ o.Word tail ∷ o.Word mask ∷ []) = Some (vtype_named width group tail mask)
four_names operands = None

-- what four names give in the slot of a vtype, if they stand there
abbrev pub named_at : List Slot → List Operand → Option (Result (List (ℕ × ℤ)) AsmFault)
named_at (s.Configuration field greatest ∷ []) operands = option_map (named_type field greatest) (four_names operands)
named_at slots operands = None

abbrev pub named_or : Option (Result (List (ℕ × ℤ)) AsmFault) → Result (List (ℕ × ℤ)) AsmFault → Result (List (ℕ × ℤ)) AsmFault
named_or (Some named) others = named
named_or None others = others

-- all operands in the slots of a form: a mask may be left out, a vtype may be four names, and else there is one operand
-- for each slot
unfoldable pub given_all : Context → List Slot → List Operand → Result (List (ℕ × ℤ)) AsmFault
given_all c [] [] = Ok []
given_all c [] (operand ∷ operands) = Err Syntax
given_all c (slot ∷ slots) [] = left_out slot slots
given_all c (slot ∷ slots) (operand ∷ operands) =
    named_or (named_at (slot ∷ slots) (operand ∷ operands)) (appended (both (given c slot operand) (given_all c slots operands)))

-- ---- what a line gives

-- a word of text: a form with numbers in its fields, or a number of 32 bits
pub data Item : Type 0 where
  Coded : (form : MnemonicForm) → (fields : List ℤ) → Item
  Raw : (number : ℕ) → Item

pub record Given : Type 0 where
  pub items : List Item
  pub bytes : List ℕ
  pub entry : Option ℕ
  pub output : Option Picture

abbrev pub nothing : Given
nothing = record { items = []; bytes = []; entry = None; output = None }

abbrev pub these_items : List Item → Given
these_items items = record { items = items; bytes = []; entry = None; output = None }

abbrev pub these_bytes : List ℕ → Given
these_bytes bytes = record { items = []; bytes = bytes; entry = None; output = None }

-- an instruction, li and la stand in text alone
abbrev pub in_text : Section → Result Given AsmFault → Result Given AsmFault
in_text Text judged = judged
in_text Data judged = Err Syntax

abbrev pub instruction : Context → MnemonicForm → List Operand → Result Given AsmFault
instruction c form operands =
    given_all c (shape form) operands >>= λ pairs. Ok (these_items (Coded form (placed (blank form) pairs) ∷ []))

-- LUI with the upper part of a number of 32 bits, rounded so that ADDI with its low 12 bits, signed, makes it
abbrev pub loaded : ℕ → ℕ → Given
loaded rd n = these_items
    (Coded f.Lui (pos rd ∷ pos ((n + 0x800) / 4096 % 2 ^ 20) ∷ [])
    ∷ Coded (f.AluImm Addi) (pos rd ∷ pos rd ∷ signed 12 (n % 4096) ∷ [])
    ∷ [])

-- a number of 32 bits, signed or not
abbrev pub word_number : ℤ → Result ℕ AsmFault
word_number number = number_within (negsuc 2147483647) (pos 4294967295) number >>= λ n. Ok (cast_unsigned w32 n)

abbrev pub load_immediate : List Operand → Result Given AsmFault
load_immediate (o.Word rd ∷ o.Number number ∷ []) =
    both (register_named integer_letter rd) (word_number number) >>= λ x. Ok (loaded x.0 x.1)
load_immediate operands = Err Syntax

abbrev pub load_address : Context → List Operand → Result Given AsmFault
load_address c (o.Word rd ∷ o.Word label ∷ []) = both (register_named integer_letter rd) (referenced c.survey label) >>= λ x. Ok (loaded x.0 (x.1 % 2 ^ 32))
load_address c operands = Err Syntax

-- a word in text, or four bytes of data
abbrev pub word_in : Section → ℕ → Given
word_in Text n = these_items (Raw n ∷ [])
word_in Data n = these_bytes (to_le_bytes w32 n)

abbrev pub word : Context → List Operand → Result Given AsmFault
word c (o.Number number ∷ []) = word_number number >>= λ n. Ok (word_in (section c) n)
word c (o.Word label ∷ []) = referenced c.survey label >>= λ n. Ok (word_in (section c) (n % 2 ^ 32))
word c operands = Err Syntax

-- more bytes than data may have are too large
abbrev pub zeros : ℤ → Result Given AsmFault
zeros (pos n) = if nat_le n most_bytes then Ok (these_bytes (replicate n 0)) else Err TooLarge
zeros (negsuc n) = Err Immediate

abbrev pub space : Section → List Operand → Result Given AsmFault
space Data (o.Number number ∷ []) = zeros number
space section operands = Err Syntax

-- a second line with the directive is faulty
abbrev pub is_first : Option ℕ → ℕ → Bool
is_first None line = true
is_first (Some first) line = first == line

-- the entry at an address of a section: a word of text; an address has 32 bits
abbrev pub entry_in : Survey → Section → ℕ → Result Given AsmFault
entry_in survey Text at =
    if nat_lt at (2 ^ 32) && is_text_word survey.here.place.words at then Ok (record nothing { entry = Some at }) else Err Target
entry_in survey Data at = Err Target

abbrev pub entry_named : Context → List ℕ → Result Given AsmFault
entry_named c label =
    if is_first c.survey.entry c.here.line then labelled c.survey label >>= (λ named. entry_in c.survey named.section named.address) else Err Syntax

abbrev pub entry : Context → Section → List Operand → Result Given AsmFault
entry c Text (o.Word label ∷ []) = entry_named c label
entry c section operands = Err Syntax

-- in data of this many bytes, a picture of this many pixels a row and this many rows, one row after the other, where
-- the image rules accept it; an address has 32 bits
abbrev pub picture_at : ℕ → ℕ → ℕ → ℕ → Result Given AsmFault
picture_at bytes at width height =
    let picture : Picture = record { address = at; width = width; height = height; stride = 4 * width } in
    if nat_lt at (2 ^ 32) && is_output bytes picture then Ok (record nothing { output = Some picture }) else Err Target

-- neither side has more pixels than a picture may have
abbrev pub is_extent : ℤ → Bool
is_extent number = is_within (pos 0) (pos most_pixels) number

abbrev pub picture_of : ℕ → Section → ℕ → ℤ → ℤ → Result Given AsmFault
picture_of bytes Text at width height = Err Target
picture_of bytes Data at width height =
    if is_extent width && is_extent height then picture_at bytes at (unsigned_abs width) (unsigned_abs height) else Err Target

abbrev pub output_named : Context → List ℕ → ℤ → ℤ → Result Given AsmFault
output_named c label width height =
    if is_first c.survey.output c.here.line
    then labelled c.survey label >>= (λ named. picture_of c.survey.here.place.bytes named.section named.address width height) else Err Syntax

abbrev pub output : Context → List Operand → Result Given AsmFault
output c (o.Word label ∷ o.Number width ∷ o.Number height ∷ []) = output_named c label width height
output c operands = Err Syntax

abbrev pub no_operands : List Operand → Result Given AsmFault
no_operands [] = Ok nothing
no_operands operands = Err Syntax

-- what a mnemonic with its operands gives
unfoldable pub performed : Context → Option LineOperation → List Operand → Result Given AsmFault
performed c None operands = Err Mnemonic
performed c (Some (Instruction form)) operands = in_text (section c) (instruction c form operands)
performed c (Some LoadImmediate) operands = in_text (section c) (load_immediate operands)
performed c (Some LoadAddress) operands = in_text (section c) (load_address c operands)
performed c (Some TextSection) operands = no_operands operands
performed c (Some DataSection) operands = no_operands operands
performed c (Some Word) operands = word c operands
performed c (Some Space) operands = space (section c) operands
performed c (Some Entry) operands = entry c (section c) operands
performed c (Some Output) operands = output c operands
