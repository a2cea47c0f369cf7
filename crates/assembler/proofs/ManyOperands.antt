-- Of a line's operands the first eight decide.
use Rattle.std.proofs.Common.{◌≡◌, ◌⊎◌, ℕ, zero, suc, ◌+◌, ◌<◌, ◌≤◌, List, [], ◌∷◌, length, take, Option, Some, None, Err, refl, sym, ap, ◌∙◌, arith, option_map, inl, inr}
use Rattle.std.proofs.lemmas.List.{take_all, length-take-le}
use Rattle.std.proofs.lemmas.Bool.{cases_lt}
use Rattle.rv_insn.specs.declared.vector_operations.AddressMode.{AddressMode}
use Rattle.rv_insn.specs.declared.vector_operations.AddressMode.TheVariants as modes
use Rattle.assembler_mnemonics.specs.declared.slots.Slot.{Slot}
use Rattle.assembler_mnemonics.specs.declared.slots.Slot.TheVariants as s
use Rattle.assembler_mnemonics.specs.declared.forms.MnemonicForm.{MnemonicForm}
use Rattle.assembler_mnemonics.specs.declared.forms.MnemonicForm.TheVariants as f
use Rattle.assembler_mnemonics.specs.declared.forms.VectorForm.{VectorForm}
use Rattle.assembler_mnemonics.specs.declared.forms.VectorForm.TheVariants as v
use Rattle.assembler_mnemonics.specs.Slots.{shape, vector_shape, access_operands}
use Rattle.assembler_syntax.specs.declared.statements.Operand.{Operand}
use Rattle.assembler_syntax.specs.declared.statements.Operand.TheVariants as o
use Rattle.assembler_syntax.specs.declared.statements.Statement.{Statement}
use Rattle.assembler_syntax.specs.declared.statements.MnemonicLine.{MnemonicLine}
use Rattle.assembler_syntax.specs.Statements.{up_to, command_up_to}
use Rattle.assembler.specs.Judging as j
use Rattle.assembler.specs.Judging.{Context, given_all, four_names, named_at, named_type, performed}
use Rattle.assembler.specs.Lines.{stated, commanded}
use Rattle.assembler.specs.declared.faults.AsmFault.TheVariants.{Syntax}
use Rattle.assembler.specs.declared.locations.LineLocation.{LineLocation}
use Rattle.assembler.specs.declared.locations.Section.{Section}
use Rattle.assembler.specs.declared.locations.Section.TheVariants.{Text, Data}
use Rattle.assembler.specs.declared.operations.LineOperation.{LineOperation}
use Rattle.assembler.specs.declared.operations.LineOperation.TheVariants as op

-- ---- a judgement that is the same for all that are longer than some

-- whatever operands it is asked of, these many decide
abbrev pub Decide : {A : Type 0} → ℕ → (List Operand → A) → Type 0
Decide most judged = (operands : List Operand) → judged (take most operands) ≡ judged operands

cut_by : {A : Type 0} (few most : ℕ) (judged : List Operand → A) (answer : A) (operands : List Operand)
    → few < most → ((long : List Operand) → few < length long → judged long ≡ answer) → (most < length operands) ⊎ (length operands ≤ most)
    → judged (take most operands) ≡ judged operands
cut_by few most judged answer operands less same (inr short) = ap judged (take_all most operands short)
cut_by few most judged answer operands less same (inl long) =
    let len : length (take most operands) ≡ most = length-take-le most operands (omega (arith, long)) in
    same (take most operands) (omega (arith, len, less)) ∙ sym (same operands (omega (arith, less, long)))

cut : {A : Type 0} (few most : ℕ) (judged : List Operand → A) (answer : A) → few < most
    → ((long : List Operand) → few < length long → judged long ≡ answer) → Decide most judged
cut few most judged answer less same operands =
    cut_by few most judged answer operands less same (cases_lt most (length operands))

-- ---- instructions

five_names : (operands : List Operand) → 4 < length operands → four_names operands ≡ None
five_names [] long = absurd (omega (arith, long))
five_names (a ∷ []) long = absurd (omega (arith, long))
five_names (a ∷ b ∷ []) long = absurd (omega (arith, long))
five_names (a ∷ b ∷ c ∷ []) long = absurd (omega (arith, long))
five_names (a ∷ b ∷ c ∷ d ∷ []) long = absurd (omega (arith, long))
five_names (o.Word w ∷ o.Word g ∷ o.Word t ∷ o.Word m ∷ e ∷ others) long = refl
five_names (o.Word w ∷ o.Word g ∷ o.Word t ∷ o.Number n ∷ e ∷ others) long = refl
five_names (o.Word w ∷ o.Word g ∷ o.Word t ∷ o.Based n b ∷ e ∷ others) long = refl
five_names (o.Word w ∷ o.Word g ∷ o.Word t ∷ o.Bracketed b ∷ e ∷ others) long = refl
five_names (o.Word w ∷ o.Word g ∷ o.Number n ∷ d ∷ e ∷ others) long = refl
five_names (o.Word w ∷ o.Word g ∷ o.Based n b ∷ d ∷ e ∷ others) long = refl
five_names (o.Word w ∷ o.Word g ∷ o.Bracketed b ∷ d ∷ e ∷ others) long = refl
five_names (o.Word w ∷ o.Number n ∷ c ∷ d ∷ e ∷ others) long = refl
five_names (o.Word w ∷ o.Based n b ∷ c ∷ d ∷ e ∷ others) long = refl
five_names (o.Word w ∷ o.Bracketed b ∷ c ∷ d ∷ e ∷ others) long = refl
five_names (o.Number n ∷ b ∷ c ∷ d ∷ e ∷ others) long = refl
five_names (o.Based n b ∷ b' ∷ c ∷ d ∷ e ∷ others) long = refl
five_names (o.Bracketed b ∷ b' ∷ c ∷ d ∷ e ∷ others) long = refl

named_same : (slots : List Slot) (few many : List Operand) → four_names few ≡ four_names many → named_at slots few ≡ named_at slots many
named_same [] few many same = refl
named_same (s.Configuration field greatest ∷ []) few many same = ap (option_map (named_type field greatest)) same
named_same (s.Configuration field greatest ∷ slot ∷ slots) few many same = refl
named_same (s.Integer field ∷ slots) few many same = refl
named_same (s.Vector field ∷ slots) few many same = refl
named_same (s.MaskRegister ∷ slots) few many same = refl
named_same (s.Number field least greatest ∷ slots) few many same = refl
named_same (s.Upper field ∷ slots) few many same = refl
named_same (s.Based offset base ∷ slots) few many same = refl
named_same (s.Address base ∷ slots) few many same = refl
named_same (s.Target field reach ∷ slots) few many same = refl
named_same (s.Mask field ∷ slots) few many same = refl

given_cut : (c : Context) (slots : List Slot) (most : ℕ) (operands : List Operand) → length slots + 4 ≤ most
    → given_all c slots (take most operands) ≡ given_all c slots operands
unfolding given_all
given_cut c [] zero operands room = absurd (omega (arith, room))
given_cut c (slot ∷ slots) zero operands room = absurd (omega (arith, room))
given_cut c [] (suc most) [] room = refl
given_cut c (slot ∷ slots) (suc most) [] room = refl
given_cut c [] (suc most) (operand ∷ operands) room = refl
given_cut c (slot ∷ slots) (suc most) (operand ∷ operands) room =
    let names : four_names (operand ∷ take most operands) ≡ four_names (operand ∷ operands) =
    cut 4 (suc most) four_names None (omega (arith, room)) five_names (operand ∷ operands) in
    rw (given_cut c slots most operands (omega (arith, room)), named_same (slot ∷ slots) (operand ∷ take most operands) (operand ∷ operands) names) refl

access_short : (mode : AddressMode) → length (access_operands mode) ≤ 4
access_short modes.UnitStride = omega arith
access_short modes.Strided = omega arith
access_short modes.Indexed = omega arith

vector_short : (form : VectorForm) → length (vector_shape form) ≤ 4
unfolding vector_shape
vector_short (v.ArithmeticVv operation) = omega arith
vector_short (v.ArithmeticVx operation) = omega arith
vector_short (v.ArithmeticVi operation) = omega arith
vector_short (v.ShiftVi operation) = omega arith
vector_short (v.CompareVv operation) = omega arith
vector_short (v.CompareVx operation) = omega arith
vector_short (v.CompareVi operation) = omega arith
vector_short (v.MultiplyVv operation) = omega arith
vector_short (v.MultiplyVx operation) = omega arith
vector_short (v.Reduce operation) = omega arith
vector_short v.MergeVv = omega arith
vector_short v.MergeVx = omega arith
vector_short v.MergeVi = omega arith
vector_short v.MoveVv = omega arith
vector_short v.MoveVx = omega arith
vector_short v.MoveVi = omega arith
vector_short v.MoveToScalar = omega arith
vector_short v.MoveFromScalar = omega arith
vector_short v.ElementNumbers = omega arith
vector_short v.ExtendBytes = omega arith
vector_short v.Vsetvli = omega arith
vector_short v.Vsetivli = omega arith
vector_short v.Vsetvl = omega arith
vector_short (v.LoadElements mode width) = access_short mode
vector_short (v.StoreElements mode width) = access_short mode

shape_short : (form : MnemonicForm) → length (shape form) ≤ 4
unfolding shape
shape_short f.Lui = omega arith
shape_short f.Auipc = omega arith
shape_short f.Jal = omega arith
shape_short f.Jalr = omega arith
shape_short (f.Branch operation) = omega arith
shape_short (f.Load operation) = omega arith
shape_short (f.Store operation) = omega arith
shape_short (f.AluImm operation) = omega arith
shape_short (f.Shift operation) = omega arith
shape_short (f.Alu operation) = omega arith
shape_short (f.AmoaddW aq rl) = omega arith
shape_short f.Fence = omega arith
shape_short f.Ecall = omega arith
shape_short f.Ebreak = omega arith
shape_short (f.Vector form) = vector_short form

instruction_cut : (c : Context) (form : MnemonicForm) → Decide 8 (j.instruction c form)
instruction_cut c form operands =
    let room = shape_short form in
    rw (given_cut c (shape form) 8 operands (omega (arith, room))) refl

-- ---- the others: none takes four

load_immediate_long : (operands : List Operand) → 3 < length operands → j.load_immediate operands ≡ Err Syntax
load_immediate_long [] long = refl
load_immediate_long (a ∷ []) long = absurd (omega (arith, long))
load_immediate_long (a ∷ b ∷ []) long = absurd (omega (arith, long))
load_immediate_long (o.Word w ∷ o.Number n ∷ c ∷ others) long = refl
load_immediate_long (o.Word w ∷ o.Word l ∷ c ∷ others) long = refl
load_immediate_long (o.Word w ∷ o.Based n b ∷ c ∷ others) long = refl
load_immediate_long (o.Word w ∷ o.Bracketed b ∷ c ∷ others) long = refl
load_immediate_long (o.Number n ∷ b ∷ c ∷ others) long = refl
load_immediate_long (o.Based n w ∷ b ∷ c ∷ others) long = refl
load_immediate_long (o.Bracketed w ∷ b ∷ c ∷ others) long = refl

load_address_long : (c : Context) (operands : List Operand) → 3 < length operands → j.load_address c operands ≡ Err Syntax
load_address_long c [] long = refl
load_address_long c (a ∷ []) long = absurd (omega (arith, long))
load_address_long c (a ∷ b ∷ []) long = absurd (omega (arith, long))
load_address_long c (o.Word w ∷ o.Word l ∷ d ∷ others) long = refl
load_address_long c (o.Word w ∷ o.Number n ∷ d ∷ others) long = refl
load_address_long c (o.Word w ∷ o.Based n b ∷ d ∷ others) long = refl
load_address_long c (o.Word w ∷ o.Bracketed b ∷ d ∷ others) long = refl
load_address_long c (o.Number n ∷ b ∷ d ∷ others) long = refl
load_address_long c (o.Based n w ∷ b ∷ d ∷ others) long = refl
load_address_long c (o.Bracketed w ∷ b ∷ d ∷ others) long = refl

word_long : (c : Context) (operands : List Operand) → 3 < length operands → j.word c operands ≡ Err Syntax
word_long c [] long = refl
word_long c (a ∷ []) long = absurd (omega (arith, long))
word_long c (o.Number n ∷ b ∷ others) long = refl
word_long c (o.Word w ∷ b ∷ others) long = refl
word_long c (o.Based n w ∷ b ∷ others) long = refl
word_long c (o.Bracketed w ∷ b ∷ others) long = refl

space_long : (section : Section) (operands : List Operand) → 3 < length operands → j.space section operands ≡ Err Syntax
space_long Text operands long = refl
space_long Data [] long = refl
space_long Data (a ∷ []) long = absurd (omega (arith, long))
space_long Data (o.Number n ∷ b ∷ others) long = refl
space_long Data (o.Word w ∷ b ∷ others) long = refl
space_long Data (o.Based n w ∷ b ∷ others) long = refl
space_long Data (o.Bracketed w ∷ b ∷ others) long = refl

entry_long : (c : Context) (section : Section) (operands : List Operand) → 3 < length operands → j.entry c section operands ≡ Err Syntax
entry_long c Data operands long = refl
entry_long c Text [] long = refl
entry_long c Text (a ∷ []) long = absurd (omega (arith, long))
entry_long c Text (o.Word w ∷ b ∷ others) long = refl
entry_long c Text (o.Number n ∷ b ∷ others) long = refl
entry_long c Text (o.Based n w ∷ b ∷ others) long = refl
entry_long c Text (o.Bracketed w ∷ b ∷ others) long = refl

output_long : (c : Context) (operands : List Operand) → 3 < length operands → j.output c operands ≡ Err Syntax
output_long c [] long = refl
output_long c (a ∷ []) long = absurd (omega (arith, long))
output_long c (a ∷ b ∷ []) long = absurd (omega (arith, long))
output_long c (a ∷ b ∷ d ∷ []) long = absurd (omega (arith, long))
output_long c (o.Word w ∷ o.Number n ∷ o.Number m ∷ e ∷ others) long = refl
output_long c (o.Word w ∷ o.Number n ∷ o.Word l ∷ e ∷ others) long = refl
output_long c (o.Word w ∷ o.Number n ∷ o.Based m b ∷ e ∷ others) long = refl
output_long c (o.Word w ∷ o.Number n ∷ o.Bracketed b ∷ e ∷ others) long = refl
output_long c (o.Word w ∷ o.Word l ∷ d ∷ e ∷ others) long = refl
output_long c (o.Word w ∷ o.Based n b ∷ d ∷ e ∷ others) long = refl
output_long c (o.Word w ∷ o.Bracketed b ∷ d ∷ e ∷ others) long = refl
output_long c (o.Number n ∷ b ∷ d ∷ e ∷ others) long = refl
output_long c (o.Based n w ∷ b ∷ d ∷ e ∷ others) long = refl
output_long c (o.Bracketed w ∷ b ∷ d ∷ e ∷ others) long = refl

no_operands_long : (operands : List Operand) → 3 < length operands → j.no_operands operands ≡ Err Syntax
no_operands_long [] long = absurd (omega (arith, long))
no_operands_long (a ∷ others) long = refl

-- ---- a statement

performed_cut : (c : Context) (operation : Option LineOperation) → Decide 8 (performed c operation)
unfolding performed
performed_cut c None operands = refl
performed_cut c (Some (op.Instruction form)) operands = ap (j.in_text (j.section c)) (instruction_cut c form operands)
performed_cut c (Some op.LoadImmediate) operands =
    ap (j.in_text (j.section c)) (cut 3 8 j.load_immediate (Err Syntax) (omega arith) load_immediate_long operands)
performed_cut c (Some op.LoadAddress) operands =
    ap (j.in_text (j.section c)) (cut 3 8 (j.load_address c) (Err Syntax) (omega arith) (load_address_long c) operands)
performed_cut c (Some op.TextSection) operands = cut 3 8 j.no_operands (Err Syntax) (omega arith) no_operands_long operands
performed_cut c (Some op.DataSection) operands = cut 3 8 j.no_operands (Err Syntax) (omega arith) no_operands_long operands
performed_cut c (Some op.Word) operands = cut 3 8 (j.word c) (Err Syntax) (omega arith) (word_long c) operands
performed_cut c (Some op.Space) operands = cut 3 8 (j.space (j.section c)) (Err Syntax) (omega arith) (space_long (j.section c)) operands
performed_cut c (Some op.Entry) operands = cut 3 8 (j.entry c (j.section c)) (Err Syntax) (omega arith) (entry_long c (j.section c)) operands
performed_cut c (Some op.Output) operands = cut 3 8 (j.output c) (Err Syntax) (omega arith) (output_long c) operands

commanded_cut : (c : Context) (command : Option MnemonicLine) → commanded c (option_map (command_up_to 8) command) ≡ commanded c command
commanded_cut c None = refl
commanded_cut c (Some command) = performed_cut c _ command.operands

pub stated_cut : (c : Context) (behind : LineLocation) (statement : Statement) → stated c behind (up_to 8 statement) ≡ stated c behind statement
unfolding stated
stated_cut c behind statement = rw (commanded_cut c statement.command) refl
