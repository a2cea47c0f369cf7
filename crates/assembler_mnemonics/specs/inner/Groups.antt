-- Groups of forms whose instructions are made, and read, alike. This project's own.
use Rattle.std.specs.Prelude.{⊤}
use Rattle.assembler_mnemonics.specs.declared.forms.MnemonicForm.{MnemonicForm}
use Rattle.assembler_mnemonics.specs.declared.forms.MnemonicForm.TheVariants as f
use Rattle.assembler_mnemonics.specs.declared.forms.VectorForm.{VectorForm}
use Rattle.assembler_mnemonics.specs.declared.forms.VectorForm.TheVariants as v

-- an operation on integer registers
abbrev pub IsOperation : MnemonicForm → Type 0
IsOperation (f.AluImm op) = ⊤
IsOperation (f.Shift op) = ⊤
IsOperation (f.Alu op) = ⊤
IsOperation form = ⊥

-- a load or store of an integer register, or both
abbrev pub IsAccess : MnemonicForm → Type 0
IsAccess (f.Load op) = ⊤
IsAccess (f.Store op) = ⊤
IsAccess (f.AmoaddW aq rl) = ⊤
IsAccess form = ⊥

-- ---- operations on elements, by their other operand

abbrev pub TakesVector : VectorForm → Type 0
TakesVector (v.ArithmeticVv op) = ⊤
TakesVector (v.CompareVv op) = ⊤
TakesVector (v.MultiplyVv op) = ⊤
TakesVector (v.Reduce op) = ⊤
TakesVector form = ⊥

abbrev pub TakesInteger : VectorForm → Type 0
TakesInteger (v.ArithmeticVx op) = ⊤
TakesInteger (v.CompareVx op) = ⊤
TakesInteger (v.MultiplyVx op) = ⊤
TakesInteger form = ⊥

abbrev pub TakesImmediate : VectorForm → Type 0
TakesImmediate (v.ArithmeticVi op) = ⊤
TakesImmediate (v.CompareVi op) = ⊤
TakesImmediate form = ⊥

-- ---- other vector forms

abbrev pub IsMerge : VectorForm → Type 0
IsMerge v.MergeVv = ⊤
IsMerge v.MergeVx = ⊤
IsMerge v.MergeVi = ⊤
IsMerge form = ⊥

abbrev pub IsMove : VectorForm → Type 0
IsMove v.MoveVv = ⊤
IsMove v.MoveVx = ⊤
IsMove v.MoveVi = ⊤
IsMove v.MoveToScalar = ⊤
IsMove v.MoveFromScalar = ⊤
IsMove form = ⊥

abbrev pub IsConfiguration : VectorForm → Type 0
IsConfiguration v.Vsetvli = ⊤
IsConfiguration v.Vsetivli = ⊤
IsConfiguration v.Vsetvl = ⊤
IsConfiguration form = ⊥

abbrev pub IsElementAccess : VectorForm → Type 0
IsElementAccess (v.LoadElements mode width) = ⊤
IsElementAccess (v.StoreElements mode width) = ⊤
IsElementAccess form = ⊥

-- an operation on elements or a merge: its third field is its other operand
abbrev pub HasOther : VectorForm → Type 0
HasOther (v.ArithmeticVv op) = ⊤
HasOther (v.ArithmeticVx op) = ⊤
HasOther (v.ArithmeticVi op) = ⊤
HasOther (v.ShiftVi op) = ⊤
HasOther (v.CompareVv op) = ⊤
HasOther (v.CompareVx op) = ⊤
HasOther (v.CompareVi op) = ⊤
HasOther (v.MultiplyVv op) = ⊤
HasOther (v.MultiplyVx op) = ⊤
HasOther (v.Reduce op) = ⊤
HasOther v.MergeVv = ⊤
HasOther v.MergeVx = ⊤
HasOther v.MergeVi = ⊤
HasOther form = ⊥
