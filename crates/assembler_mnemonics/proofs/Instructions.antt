-- Forms and fields against instructions: an instruction is made again from its form and its fields.
use Rattle.std.proofs.Common.{◌≡◌, ℕ, ◌==◌, ℤ, pos, negsuc, List, ◌↔◌, sym, ◌∙◌, ap, arith, Bool}
use Rattle.rv_insn.specs.Table.{name_of, fields_of, Means}
use Rattle.rv_insn.specs.VectorTable.{vector_fields_of}
use Rattle.rv_insn.specs.declared.instructions.Insn.{Insn}
use Rattle.rv_insn.specs.declared.instructions.Insn.TheVariants.{Lui, Auipc, Jal, Jalr, Branch, Load, Store, AluImm, Shift, Alu, AmoaddW, Fence, Ecall, Ebreak}
use Rattle.rv_insn.specs.declared.instructions.Insn.TheVariants.{Vector}
use Rattle.rv_insn.specs.declared.vector_instructions.VectorInsn.{VectorInsn}
use Rattle.rv_insn.specs.declared.vector_instructions.VectorInsn.TheVariants as i
use Rattle.rv_insn.specs.declared.vector_instructions.Addressing.{Addressing}
use Rattle.rv_insn.specs.declared.vector_instructions.Addressing.TheVariants as addressings
use Rattle.rv_insn.specs.declared.vector_operations.AddressMode.{AddressMode}
use Rattle.rv_insn.specs.declared.vector_operations.AddressMode.TheVariants as modes
use Rattle.assembler_mnemonics.specs.declared.forms.MnemonicForm.{MnemonicForm}
use Rattle.assembler_mnemonics.specs.declared.forms.MnemonicForm.TheVariants as f
use Rattle.assembler_mnemonics.specs.declared.forms.VectorForm.{VectorForm}
use Rattle.assembler_mnemonics.specs.declared.forms.VectorForm.TheVariants as v
use Rattle.assembler_mnemonics.specs.Forms.{form_of, vector_form_of, row_name, IsWord}
use Rattle.assembler_mnemonics.specs.Slots.{field_at}

-- ---- names

pub names_agree : (insn : Insn) → name_of insn ≡ row_name (form_of insn)
names_agree insn = grind arith

pub means_is_word : (word : ℕ) (insn : Insn) → Means word insn ↔ IsWord word (form_of insn) (fields_of insn)
means_is_word word insn =
    (λ h. (h.0, h.1, h.2, sym (names_agree insn) ∙ h.3, h.4), λ h. (h.0, h.1, h.2, names_agree insn ∙ h.3, h.4))

-- ---- instructions made again

number_of : ℤ → ℕ
number_of (pos n) = n
number_of (negsuc n) = 0

number_in : List ℤ → ℕ → ℕ
number_in fields k = number_of (field_at fields k)

flag_in : List ℤ → ℕ → Bool
flag_in fields k = number_of (field_at fields k) == 1

addressing_made : AddressMode → List ℤ → Addressing
addressing_made modes.UnitStride fields = addressings.UnitStride
addressing_made modes.Strided fields = addressings.Strided (number_in fields 2)
addressing_made modes.Indexed fields = addressings.Indexed (number_in fields 2)

-- which field of a load or store the mask bit is
mask_place : AddressMode → ℕ
mask_place modes.UnitStride = 2
mask_place mode = 3

vector_made : VectorForm → List ℤ → VectorInsn
vector_made (v.ArithmeticVv op) fields = i.ArithmeticVv op (number_in fields 0) (number_in fields 1) (number_in fields 2) (flag_in fields 3)
vector_made (v.ArithmeticVx op) fields = i.ArithmeticVx op (number_in fields 0) (number_in fields 1) (number_in fields 2) (flag_in fields 3)
vector_made (v.ArithmeticVi op) fields = i.ArithmeticVi op (number_in fields 0) (number_in fields 1) (field_at fields 2) (flag_in fields 3)
vector_made (v.ShiftVi op) fields = i.ShiftVi op (number_in fields 0) (number_in fields 1) (number_in fields 2) (flag_in fields 3)
vector_made (v.CompareVv op) fields = i.CompareVv op (number_in fields 0) (number_in fields 1) (number_in fields 2) (flag_in fields 3)
vector_made (v.CompareVx op) fields = i.CompareVx op (number_in fields 0) (number_in fields 1) (number_in fields 2) (flag_in fields 3)
vector_made (v.CompareVi op) fields = i.CompareVi op (number_in fields 0) (number_in fields 1) (field_at fields 2) (flag_in fields 3)
vector_made (v.MultiplyVv op) fields = i.MultiplyVv op (number_in fields 0) (number_in fields 1) (number_in fields 2) (flag_in fields 3)
vector_made (v.MultiplyVx op) fields = i.MultiplyVx op (number_in fields 0) (number_in fields 1) (number_in fields 2) (flag_in fields 3)
vector_made (v.Reduce op) fields = i.Reduce op (number_in fields 0) (number_in fields 1) (number_in fields 2) (flag_in fields 3)
vector_made v.MergeVv fields = i.MergeVv (number_in fields 0) (number_in fields 1) (number_in fields 2)
vector_made v.MergeVx fields = i.MergeVx (number_in fields 0) (number_in fields 1) (number_in fields 2)
vector_made v.MergeVi fields = i.MergeVi (number_in fields 0) (number_in fields 1) (field_at fields 2)
vector_made v.MoveVv fields = i.MoveVv (number_in fields 0) (number_in fields 1)
vector_made v.MoveVx fields = i.MoveVx (number_in fields 0) (number_in fields 1)
vector_made v.MoveVi fields = i.MoveVi (number_in fields 0) (field_at fields 1)
vector_made v.MoveToScalar fields = i.MoveToScalar (number_in fields 0) (number_in fields 1)
vector_made v.MoveFromScalar fields = i.MoveFromScalar (number_in fields 0) (number_in fields 1)
vector_made v.ElementNumbers fields = i.ElementNumbers (number_in fields 0) (flag_in fields 1)
vector_made v.ExtendBytes fields = i.ExtendBytes (number_in fields 0) (number_in fields 1) (flag_in fields 2)
vector_made v.Vsetvli fields = i.Vsetvli (number_in fields 0) (number_in fields 1) (number_in fields 2)
vector_made v.Vsetivli fields = i.Vsetivli (number_in fields 0) (number_in fields 1) (number_in fields 2)
vector_made v.Vsetvl fields = i.Vsetvl (number_in fields 0) (number_in fields 1) (number_in fields 2)
vector_made (v.LoadElements mode width) fields = i.LoadElements width (number_in fields 0) (number_in fields 1) (addressing_made mode fields)
    (flag_in fields (mask_place mode))
vector_made (v.StoreElements mode width) fields = i.StoreElements width (number_in fields 0) (number_in fields 1) (addressing_made mode fields)
    (flag_in fields (mask_place mode))

made : MnemonicForm → List ℤ → Insn
made f.Lui fields = Lui (number_in fields 0) (number_in fields 1)
made f.Auipc fields = Auipc (number_in fields 0) (number_in fields 1)
made f.Jal fields = Jal (number_in fields 0) (field_at fields 1)
made f.Jalr fields = Jalr (number_in fields 0) (number_in fields 1) (field_at fields 2)
made (f.Branch op) fields = Branch op (number_in fields 0) (number_in fields 1) (field_at fields 2)
made (f.Load op) fields = Load op (number_in fields 0) (number_in fields 1) (field_at fields 2)
made (f.Store op) fields = Store op (number_in fields 0) (number_in fields 1) (field_at fields 2)
made (f.AluImm op) fields = AluImm op (number_in fields 0) (number_in fields 1) (field_at fields 2)
made (f.Shift op) fields = Shift op (number_in fields 0) (number_in fields 1) (number_in fields 2)
made (f.Alu op) fields = Alu op (number_in fields 0) (number_in fields 1) (number_in fields 2)
made (f.AmoaddW aq rl) fields = AmoaddW (number_in fields 0) (number_in fields 1) (number_in fields 2) aq rl
made f.Fence fields = Fence
made f.Ecall fields = Ecall
made f.Ebreak fields = Ebreak
made (f.Vector form) fields = Vector (vector_made form fields)

vector_made_again : (insn : VectorInsn) → vector_made (vector_form_of insn) (vector_fields_of insn) ≡ insn
unfolding vector_made addressing_made mask_place number_in flag_in number_of
vector_made_again insn = grind arith

made_again : (insn : Insn) → made (form_of insn) (fields_of insn) ≡ insn
unfolding made number_in number_of
made_again insn = grind (arith, vector_made_again)

-- form and fields tell instructions apart
pub told_apart : (first second : Insn) → form_of first ≡ form_of second → fields_of first ≡ fields_of second → first ≡ second
told_apart first second same equal =
    sym (made_again first) ∙ ap (λ form. made form (fields_of first)) same ∙ ap (made (form_of second)) equal ∙ made_again second
