-- All forms, and the form that a mnemonic names.
-- This project's own: the mnemonics stand in Forms.
use Rattle.std.specs.Prelude.{ℕ, ◌-◌, ◌==◌, ◌&&◌, nat_le, if◌then◌else◌, true, false, List, [], ◌∷◌, ◌++◌, length, slice_index, find, filter, map, bytes_eq}
use Rattle.std.specs.Prelude.{Option, Bool}
use Rattle.std.specs.List.{flat_map}
use Rattle.rv_insn.specs.Table.{all_branches, all_loads, all_stores, all_alu_imms, all_shifts, all_alus}
use Rattle.rv_insn.specs.VectorTable.{all_arithmetic_vvs, all_arithmetic_vxs, all_arithmetic_vis, all_shift_vis, all_compare_vvs, all_compare_vxs}
use Rattle.rv_insn.specs.VectorTable.{all_compare_vis, all_multiplies, all_reductions, all_widths}
use Rattle.rv_insn.specs.declared.vector_operations.AddressMode.{AddressMode}
use Rattle.rv_insn.specs.declared.vector_operations.AddressMode.TheVariants as modes
use Rattle.assembler_mnemonics.specs.declared.forms.MnemonicForm.{MnemonicForm}
use Rattle.assembler_mnemonics.specs.declared.forms.MnemonicForm.TheVariants as f
use Rattle.assembler_mnemonics.specs.declared.forms.VectorForm.{VectorForm}
use Rattle.assembler_mnemonics.specs.declared.forms.VectorForm.TheVariants as v
use Rattle.assembler_mnemonics.specs.declared.search.MnemonicGroup.{MnemonicGroup}
use Rattle.assembler_mnemonics.specs.declared.search.MnemonicGroup.TheVariants as g
use Rattle.assembler_mnemonics.specs.Forms.{mnemonic}

-- ---- all forms: those of each group of operations, and the others

abbrev pub all_modes : List AddressMode
all_modes = modes.UnitStride ∷ modes.Strided ∷ modes.Indexed ∷ []

unfoldable pub vector_forms : List VectorForm
vector_forms =
    map v.ArithmeticVv all_arithmetic_vvs ++ (map v.ArithmeticVx all_arithmetic_vxs ++ (map v.ArithmeticVi all_arithmetic_vis ++ (map v.ShiftVi all_shift_vis
    ++ (map v.CompareVv all_compare_vvs ++ (map v.CompareVx all_compare_vxs ++ (map v.CompareVi all_compare_vis
    ++ (map v.MultiplyVv all_multiplies ++ (map v.MultiplyVx all_multiplies ++ (map v.Reduce all_reductions
    ++ (flat_map (λ mode. map (v.LoadElements mode) all_widths) all_modes ++ (flat_map (λ mode. map (v.StoreElements mode) all_widths) all_modes
    ++ (v.MergeVv ∷ v.MergeVx ∷ v.MergeVi ∷ v.MoveVv ∷ v.MoveVx ∷ v.MoveVi ∷ v.MoveToScalar ∷ v.MoveFromScalar ∷ v.ElementNumbers ∷ v.ExtendBytes
    ∷ v.Vsetvli ∷ v.Vsetivli ∷ v.Vsetvl ∷ []))))))))))))

unfoldable pub forms : List MnemonicForm
forms =
    f.Lui ∷ f.Auipc ∷ f.Jal ∷ f.Jalr ∷ f.Fence ∷ f.Ecall ∷ f.Ebreak ∷
    f.AmoaddW false false ∷ f.AmoaddW true false ∷ f.AmoaddW false true ∷ f.AmoaddW true true ∷
    (map f.Branch all_branches ++ (map f.Load all_loads ++ (map f.Store all_stores ++ (map f.AluImm all_alu_imms ++ (map f.Shift all_shifts
    ++ (map f.Alu all_alus ++ map f.Vector vector_forms))))))

-- ---- the form that a mnemonic names

-- the form among some that has a mnemonic
unfoldable pub form_among : List MnemonicForm → List ℕ → Option MnemonicForm
form_among some name = find (λ form. bytes_eq (mnemonic form) name) some

abbrev pub form_named : List ℕ → Option MnemonicForm
form_named name = form_among forms name

-- ---- where to look for it: a reader need not believe this, since the search is proved to be `form_named`

-- groups by the first letter of the mnemonic, and those of `v` by its last two letters
unfoldable pub group_by_ending : ℕ → ℕ → MnemonicGroup
group_by_ending before last =
    if before == 118 && last == 118 then g.EndsVv
    else (if before == 118 && last == 120 then g.EndsVx
    else (if before == 118 && last == 105 then g.EndsVi
    else (if before == 46 && last == 118 then g.EndsV else g.EndsOther)))

unfoldable pub group_of : List ℕ → MnemonicGroup
group_of name =
    if slice_index name 0 == 97 then g.BeginsA
    else (if slice_index name 0 == 98 then g.BeginsB
    else (if slice_index name 0 == 108 then g.BeginsL
    else (if slice_index name 0 == 115 then g.BeginsS
    else (if slice_index name 0 == 118 && nat_le 3 (length name) then group_by_ending (slice_index name (length name - 2)) (slice_index name (length name - 1))
    else g.BeginsOther))))

abbrev pub group_number : MnemonicGroup → ℕ
group_number g.BeginsA = 0
group_number g.BeginsB = 1
group_number g.BeginsL = 2
group_number g.BeginsS = 3
group_number g.BeginsOther = 4
group_number g.EndsVv = 5
group_number g.EndsVx = 6
group_number g.EndsVi = 7
group_number g.EndsV = 8
group_number g.EndsOther = 9

unfoldable pub is_in : MnemonicGroup → MnemonicForm → Bool
is_in group form = group_number (group_of (mnemonic form)) == group_number group

unfoldable pub forms_in : MnemonicGroup → List MnemonicForm
forms_in group = filter (is_in group) forms
