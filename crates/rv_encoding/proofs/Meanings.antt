-- What a word means, both ways: the literal table against the rows by cases, and those against `decoded`.
use Rattle.std.proofs.Common.{◌≡◌, ℕ, ◌^◌, ◌<◌, List, refl, sym, ◌∙◌, ap, arith, lit<, subst, Option, Some, None}
use Rattle.std.specs.Prelude.{Contains, IfSome, IfNone, map, find}
use Rattle.std.specs.Str.{bytes_eq}
use Rattle.rv_insn.specs.Encoding.{Holds, field_of, Row, in_parts, fixed, span}
use Rattle.rv_insn.specs.Table.{table, scalar_table, r_type, i_type, s_type, b_type, u_type, j_type, amo_type, whole_word, name_of, fields_of, Means}
use Rattle.rv_insn.specs.declared.instructions.Insn.{Insn}
use Rattle.rv_insn.specs.declared.instructions.Insn.TheVariants.{Lui, Auipc, Jal, Jalr, Branch, Load, Store, AluImm, Shift, Alu, AmoaddW, Fence, Ecall, Ebreak}
use Rattle.rv_insn.specs.declared.instructions.Insn.TheVariants.{Vector}
use Rattle.rv_insn.specs.declared.operations.ShiftOp.{ShiftOp}
use Rattle.rv_insn.specs.VectorTable.{vector_table}
use Rattle.operation_keys.specs.Operations.{branch_funct3, branch_of, load_funct3, load_of, store_funct3, store_of, alu_imm_funct3, alu_imm_of, shift_funct3}
use Rattle.operation_keys.specs.Operations.{shift_funct7, shift_of, alu_funct3, alu_funct7, alu_of, key_in}
use Rattle.rv_encoding.specs.Formats.{Stands, shape_of, StandsFor}
use Rattle.rv_encoding.specs.Decoding.{part, rd_of, rs1_of, rs2_of, i_immediate_of, s_immediate_of, b_offset_of, with_op, op_imm_from, op_imm_in, decoded}
use Rattle.rv_encoding.proofs.Formats.{u_made, j_made, i_made, s_made, b_made, r_made, amo_made, whole_made, bit_of-flag, u_case, j_case, i_case, s_case}
use Rattle.rv_encoding.proofs.Formats.{b_case, r_case, amo_case, whole_case, funct3_of, funct7_of}
use Rattle.rv_encoding.proofs.Lists.{some_same, Contains-find}
use Rattle.rv_encoding.proofs.Operations.{branch_funct3-lt, branch_of-funct3, branch_found, load_funct3-lt, load_of-funct3, load_found, store_funct3-lt}
use Rattle.rv_encoding.proofs.Operations.{store_of-funct3, store_found, alu_imm_funct3-lt, alu_imm_of-funct3, alu_imm_found, shift_funct3-lt, shift_funct7-lt}
use Rattle.rv_encoding.proofs.Operations.{shift_of-keys, shift_found, shift_is_no_alu_imm, alu_funct3-lt, alu_funct7-lt, alu_of-keys, alu_found}
use Rattle.rv_encoding.proofs.Rows.{same_row}
use Rattle.rv_encoding.proofs.VectorMeanings.{vector_decoded, tried, with_found, op_v_stands, load_stands, store_stands}

-- ---- the row by cases is the table's row of that name

abbrev pub row_named : List ℕ → Option Row
row_named name = find (λ row. bytes_eq name row.name) table

-- an instruction's row, with its name
abbrev pub row_of : Insn → Row
row_of insn = record (shape_of insn) { name = name_of insn }

pub row_named-name_of : (insn : Insn) → row_named (name_of insn) ≡ Some (row_of insn)
unfolding table scalar_table vector_table r_type i_type s_type b_type u_type j_type amo_type whole_word key_in in_parts fixed span
row_named-name_of insn = grind arith

Contains-row_of : (insn : Insn) → Contains table (row_of insn)
Contains-row_of insn = Contains-find _ table (row_of insn) (row_named-name_of insn)

pub means_from_stands : (word : ℕ) (insn : Insn) → StandsFor word insn → Means word insn
unfolding Stands
means_from_stands word insn h = (row_of insn, Contains-row_of insn, h.0, refl, h.1)

pub stands_from_means : (word : ℕ) (insn : Insn) → Means word insn → StandsFor word insn
unfolding Stands
stands_from_means word insn h =
    let same : h.0 ≡ row_of insn = same_row h.0 (row_of insn) h.1 (Contains-row_of insn) (sym h.3) in (
      subst (λ (row : Row). Holds word row.pairs) same h.2,
      subst (λ (row : Row). fields_of insn ≡ map (field_of word) row.fields) same h.4,
    )

-- ---- what stands for an instruction is decoded to it

fence_decoded : decoded 0x0FF0000F ≡ Some Fence
unfolding decoded
fence_decoded = refl

ecall_decoded : decoded 0x00000073 ≡ Some Ecall
unfolding decoded
ecall_decoded = refl

ebreak_decoded : decoded 0x00100073 ≡ Some Ebreak
unfolding decoded
ebreak_decoded = refl

-- a shift's funct3 is that of no operation with an immediate, so its keys tell it
shift_told : (word : ℕ) (op : ShiftOp) → op_imm_in (shift_funct3 op) (shift_funct7 op) word ≡ Some (Shift op (rd_of word) (rs1_of word) (rs2_of word))
shift_told word op =
    ap (λ o. op_imm_from o (shift_funct3 op) (shift_funct7 op) word) (shift_is_no_alu_imm op)
    ∙ ap (with_op (λ op. Shift op (rd_of word) (rs1_of word) (rs2_of word))) (shift_of-keys op)

decoded_from_stands : (word : ℕ) (insn : Insn) → word < 2 ^ 32 → StandsFor word insn → decoded word ≡ Some insn
decoded_from_stands word (Lui rd imm) small h = u_case Lui 0b0110111 (lit< tt) word rd imm refl h
decoded_from_stands word (Auipc rd imm) small h = u_case Auipc 0b0010111 (lit< tt) word rd imm refl h
decoded_from_stands word (Jal rd offset) small h = j_case Jal 0b1101111 (lit< tt) word rd offset refl h
decoded_from_stands word (Jalr rd rs1 imm) small h = i_case Jalr 0b1100111 0b000 (lit< tt) (lit< tt) word rd rs1 imm refl h
decoded_from_stands word (Branch op rs1 rs2 offset) small h =
    b_case (Branch op) 0b1100011 (branch_funct3 op) (lit< tt) (branch_funct3-lt op) word rs1 rs2 offset
    (ap (with_op (λ op. Branch op (rs1_of word) (rs2_of word) (b_offset_of word))) (branch_of-funct3 op)) h
decoded_from_stands word (Load op rd rs1 imm) small h =
    i_case (Load op) 0b0000011 (load_funct3 op) (lit< tt) (load_funct3-lt op) word rd rs1 imm
    (ap (with_op (λ op. Load op (rd_of word) (rs1_of word) (i_immediate_of word))) (load_of-funct3 op)) h
decoded_from_stands word (Store op rs1 rs2 imm) small h =
    s_case (Store op) 0b0100011 (store_funct3 op) (lit< tt) (store_funct3-lt op) word rs1 rs2 imm
    (ap (with_op (λ op. Store op (rs1_of word) (rs2_of word) (s_immediate_of word))) (store_of-funct3 op)) h
decoded_from_stands word (AluImm op rd rs1 imm) small h =
    i_case (AluImm op) 0b0010011 (alu_imm_funct3 op) (lit< tt) (alu_imm_funct3-lt op) word rd rs1 imm
    (ap (λ o. op_imm_from o (alu_imm_funct3 op) (funct7_of word) word) (alu_imm_of-funct3 op)) h
decoded_from_stands word (Shift op rd rs1 amount) small h =
    r_case (Shift op) 0b0010011 (shift_funct3 op) (shift_funct7 op) (lit< tt) (shift_funct3-lt op) (shift_funct7-lt op) word rd rs1 amount
    (shift_told word op) h
decoded_from_stands word (Alu op rd rs1 rs2) small h =
    r_case (Alu op) 0b0110011 (alu_funct3 op) (alu_funct7 op) (lit< tt) (alu_funct3-lt op) (alu_funct7-lt op) word rd rs1 rs2
    (ap (with_op (λ op. Alu op (rd_of word) (rs1_of word) (rs2_of word))) (alu_of-keys op)) h
decoded_from_stands word (AmoaddW rd rs1 rs2 aq rl) small h =
    amo_case AmoaddW 0b0101111 0b010 0b00000 (lit< tt) (lit< tt) (lit< tt) word rd rs1 rs2 aq rl (λ e. rw e refl) h
decoded_from_stands word Fence small h = whole_case 0x0FF0000F (lit< tt) Fence fence_decoded word small h
decoded_from_stands word Ecall small h = whole_case 0x00000073 (lit< tt) Ecall ecall_decoded word small h
decoded_from_stands word Ebreak small h = whole_case 0x00100073 (lit< tt) Ebreak ebreak_decoded word small h
decoded_from_stands word (Vector insn) small h = vector_decoded word insn h

-- ---- and what is decoded stands for its instruction

-- an operation with an immediate, and where there is none a shift
op_imm_stands : (word : ℕ) → part word 0 7 ≡ 0b0010011 → IfSome (op_imm_in (funct3_of word) (funct7_of word) word) (StandsFor word)
op_imm_stands word o = elim (alu_imm_of (funct3_of word)) as (λ found. (alu_imm_of (funct3_of word) ≡ found)
    → IfSome (op_imm_from found (funct3_of word) (funct7_of word) word) (StandsFor word)) [
      | Some op ↦ λ e. i_made 0b0010011 (alu_imm_funct3 op) word _ _ _ o (sym (alu_imm_found _ op e)) refl refl refl
      | None ↦ λ e. with_found _ (shift_of (funct3_of word) (funct7_of word)) (StandsFor word)
          (λ op e. let keys = shift_found _ _ op e in r_made 0b0010011 (shift_funct3 op) (shift_funct7 op) word _ _ _ o (sym keys.0) (sym keys.1) refl refl
          refl)
    ] refl

stands_if_decoded : (word : ℕ) → word < 2 ^ 32 → IfSome (decoded word) (StandsFor word)
unfolding decoded
stands_if_decoded word small =
    tried (part word 0 7) 0b0110111 _ _ (StandsFor word) (λ o. u_made 0b0110111 word _ _ o refl refl) (
    tried (part word 0 7) 0b0010111 _ _ (StandsFor word) (λ o. u_made 0b0010111 word _ _ o refl refl) (
    tried (part word 0 7) 0b1101111 _ _ (StandsFor word) (λ o. j_made 0b1101111 word _ _ o refl refl) (
    tried (part word 0 7) 0b1100111 _ _ (StandsFor word) (λ o. tried (funct3_of word) 0b000 _ _ (StandsFor word)
    (λ f. i_made 0b1100111 0b000 word _ _ _ o f refl refl refl) tt) (
    tried (part word 0 7) 0b1100011 _ _ (StandsFor word) (λ o. with_found _ (branch_of (funct3_of word)) (StandsFor word)
    (λ op e. b_made 0b1100011 (branch_funct3 op) word _ _ _ o (sym (branch_found _ op e)) refl refl refl)) (
    tried (part word 0 7) 0b0000011 _ _ (StandsFor word) (λ o. with_found _ (load_of (funct3_of word)) (StandsFor word)
    (λ op e. i_made 0b0000011 (load_funct3 op) word _ _ _ o (sym (load_found _ op e)) refl refl refl)) (
    tried (part word 0 7) 0b0100011 _ _ (StandsFor word) (λ o. with_found _ (store_of (funct3_of word)) (StandsFor word)
    (λ op e. s_made 0b0100011 (store_funct3 op) word _ _ _ o (sym (store_found _ op e)) refl refl refl)) (
    tried (part word 0 7) 0b0010011 _ _ (StandsFor word) (λ o. op_imm_stands word o) (
    tried (part word 0 7) 0b0110011 _ _ (StandsFor word) (λ o. with_found _ (alu_of (funct3_of word) (funct7_of word)) (StandsFor word)
    (λ op e. let keys = alu_found _ _ op e in r_made 0b0110011 (alu_funct3 op) (alu_funct7 op) word _ _ _ o (sym keys.0) (sym keys.1) refl refl refl)) (
    tried (part word 0 7) 0b0101111 _ _ (StandsFor word) (λ o. tried (funct3_of word) 0b010 _ _ (StandsFor word) (λ f. tried (part word 27 5) 0b00000
    _ _ (StandsFor word)
    (λ s. amo_made 0b0101111 0b010 0b00000 word _ _ _ _ _ o f s refl refl refl (bit_of-flag (part word 26 1) (omega arith)) (bit_of-flag (part word 25 1)
    (omega arith))) tt) tt) (
    tried (part word 0 7) 0b0001111 _ _ (StandsFor word) (λ o. tried word 0x0FF0000F _ _ (StandsFor word)
    (λ e. subst (λ w. StandsFor w Fence) (sym e) (whole_made 0x0FF0000F (lit< tt))) tt) (
    tried (part word 0 7) 0b1110011 _ _ (StandsFor word) (λ o. tried word 0x00000073 _ _ (StandsFor word)
    (λ e. subst (λ w. StandsFor w Ecall) (sym e) (whole_made 0x00000073 (lit< tt)))
    (tried word 0x00100073 _ _ (StandsFor word) (λ e. subst (λ w. StandsFor w Ebreak) (sym e) (whole_made 0x00100073 (lit< tt))) tt)) (
    tried (part word 0 7) 0b1010111 _ _ (StandsFor word) (op_v_stands word) (
    tried (part word 0 7) 0b0000111 _ _ (StandsFor word) (load_stands word) (
    tried (part word 0 7) 0b0100111 _ _ (StandsFor word) (store_stands word) tt))))))))))))))

stands_from_decoded : (word : ℕ) (insn : Insn) → word < 2 ^ 32 → decoded word ≡ Some insn → StandsFor word insn
stands_from_decoded word insn small e = subst (λ o. IfSome o (StandsFor word)) e (stands_if_decoded word small)

-- ---- the two directions, over the literal table

pub complete : (word : ℕ) (insn : Insn) → word < 2 ^ 32 → Means word insn → decoded word ≡ Some insn
complete word insn small h = decoded_from_stands word insn small (stands_from_means word insn h)

pub sound : (word : ℕ) (insn : Insn) → word < 2 ^ 32 → decoded word ≡ Some insn → Means word insn
sound word insn small e = means_from_stands word insn (stands_from_decoded word insn small e)

pub one_meaning : (word : ℕ) (i j : Insn) → word < 2 ^ 32 → Means word i → Means word j → i ≡ j
one_meaning word i j small h k = some_same i j (sym (complete word i small h) ∙ complete word j small k)

-- where nothing is decoded, nothing is meant
pub none_meant : (word : ℕ) (o : Option Insn) → word < 2 ^ 32 → o ≡ decoded word → IfNone o ((insn : Insn) → Means word insn → ⊥)
none_meant word None small e = λ insn h. none_some insn (e ∙ complete word insn small h)
  where
    none_some : (insn : Insn) → None ≡ Some insn → ⊥
    none_some insn absurdity = cc
none_meant word (Some insn) small e = tt
