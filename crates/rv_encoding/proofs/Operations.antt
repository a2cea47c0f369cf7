-- Each operation's keys fit their fields, and an operation is found by its keys and by no others.
use Rattle.std.proofs.Common.{◌≡◌, ℕ, ◌<◌, ◌^◌, ◌==◌, ◌&&◌, Some, None, arith}
use Rattle.std.proofs.lemmas.Bool.{eqb-true}
use Rattle.rv_insn.specs.declared.operations.BranchOp.{BranchOp}
use Rattle.rv_insn.specs.declared.operations.LoadOp.{LoadOp}
use Rattle.rv_insn.specs.declared.operations.StoreOp.{StoreOp}
use Rattle.rv_insn.specs.declared.operations.AluImmOp.{AluImmOp}
use Rattle.rv_insn.specs.declared.operations.ShiftOp.{ShiftOp}
use Rattle.rv_insn.specs.declared.operations.AluOp.{AluOp}
use Rattle.rv_insn.specs.Encoding.{fixed, span}
use Rattle.rv_insn.specs.Table.{scalar_table, r_type, i_type, s_type, b_type, u_type, j_type, amo_type, whole_word, all_branches, all_loads, all_stores}
use Rattle.rv_insn.specs.Table.{all_alu_imms, all_shifts, all_alus}
use Rattle.operation_keys.specs.Operations.{key_in, branch_funct3, branch_of, load_funct3, load_of, store_funct3, store_of, alu_imm_funct3, alu_imm_of}
use Rattle.operation_keys.specs.Operations.{shift_funct3, shift_funct7, shift_of, alu_funct3, alu_funct7, alu_of}
use Rattle.rv_encoding.proofs.Lists.{both_true, find_passes}

-- ---- branches

pub branch_funct3-lt : (op : BranchOp) → branch_funct3 op < 2 ^ 3
unfolding key_in scalar_table r_type i_type s_type b_type u_type j_type amo_type whole_word fixed span
branch_funct3-lt op = grind arith

pub branch_of-funct3 : (op : BranchOp) → branch_of (branch_funct3 op) ≡ Some op
unfolding key_in scalar_table r_type i_type s_type b_type u_type j_type amo_type whole_word fixed span
branch_of-funct3 op = grind arith

pub branch_found : (funct3 : ℕ) (op : BranchOp) → branch_of funct3 ≡ Some op → branch_funct3 op ≡ funct3
branch_found funct3 op e = eqb-true _ funct3 (find_passes (λ op. branch_funct3 op == funct3) all_branches op e)

-- ---- loads

pub load_funct3-lt : (op : LoadOp) → load_funct3 op < 2 ^ 3
unfolding key_in scalar_table r_type i_type s_type b_type u_type j_type amo_type whole_word fixed span
load_funct3-lt op = grind arith

pub load_of-funct3 : (op : LoadOp) → load_of (load_funct3 op) ≡ Some op
unfolding key_in scalar_table r_type i_type s_type b_type u_type j_type amo_type whole_word fixed span
load_of-funct3 op = grind arith

pub load_found : (funct3 : ℕ) (op : LoadOp) → load_of funct3 ≡ Some op → load_funct3 op ≡ funct3
load_found funct3 op e = eqb-true _ funct3 (find_passes (λ op. load_funct3 op == funct3) all_loads op e)

-- ---- stores

pub store_funct3-lt : (op : StoreOp) → store_funct3 op < 2 ^ 3
unfolding key_in scalar_table r_type i_type s_type b_type u_type j_type amo_type whole_word fixed span
store_funct3-lt op = grind arith

pub store_of-funct3 : (op : StoreOp) → store_of (store_funct3 op) ≡ Some op
unfolding key_in scalar_table r_type i_type s_type b_type u_type j_type amo_type whole_word fixed span
store_of-funct3 op = grind arith

pub store_found : (funct3 : ℕ) (op : StoreOp) → store_of funct3 ≡ Some op → store_funct3 op ≡ funct3
store_found funct3 op e = eqb-true _ funct3 (find_passes (λ op. store_funct3 op == funct3) all_stores op e)

-- ---- operations on a register and an immediate

pub alu_imm_funct3-lt : (op : AluImmOp) → alu_imm_funct3 op < 2 ^ 3
unfolding key_in scalar_table r_type i_type s_type b_type u_type j_type amo_type whole_word fixed span
alu_imm_funct3-lt op = grind arith

pub alu_imm_of-funct3 : (op : AluImmOp) → alu_imm_of (alu_imm_funct3 op) ≡ Some op
unfolding key_in scalar_table r_type i_type s_type b_type u_type j_type amo_type whole_word fixed span
alu_imm_of-funct3 op = grind arith

pub alu_imm_found : (funct3 : ℕ) (op : AluImmOp) → alu_imm_of funct3 ≡ Some op → alu_imm_funct3 op ≡ funct3
alu_imm_found funct3 op e = eqb-true _ funct3 (find_passes (λ op. alu_imm_funct3 op == funct3) all_alu_imms op e)

-- ---- shifts by an amount in the word

pub shift_funct3-lt : (op : ShiftOp) → shift_funct3 op < 2 ^ 3
unfolding key_in scalar_table r_type i_type s_type b_type u_type j_type amo_type whole_word fixed span
shift_funct3-lt op = grind arith

pub shift_funct7-lt : (op : ShiftOp) → shift_funct7 op < 2 ^ 7
unfolding key_in scalar_table r_type i_type s_type b_type u_type j_type amo_type whole_word fixed span
shift_funct7-lt op = grind arith

pub shift_of-keys : (op : ShiftOp) → shift_of (shift_funct3 op) (shift_funct7 op) ≡ Some op
unfolding key_in scalar_table r_type i_type s_type b_type u_type j_type amo_type whole_word fixed span
shift_of-keys op = grind arith

pub shift_found : (funct3 funct7 : ℕ) (op : ShiftOp) → shift_of funct3 funct7 ≡ Some op → (shift_funct3 op ≡ funct3) × (shift_funct7 op ≡ funct7)
shift_found funct3 funct7 op e =
    let both = both_true _ _ (find_passes (λ op. (shift_funct3 op == funct3) && (shift_funct7 op == funct7)) all_shifts op e) in
    (eqb-true _ funct3 both.0, eqb-true _ funct7 both.1)

-- no shift has the funct3 of an operation with an immediate
pub shift_is_no_alu_imm : (op : ShiftOp) → alu_imm_of (shift_funct3 op) ≡ None
unfolding key_in scalar_table r_type i_type s_type b_type u_type j_type amo_type whole_word fixed span
shift_is_no_alu_imm op = grind arith

-- ---- operations on two registers

pub alu_funct3-lt : (op : AluOp) → alu_funct3 op < 2 ^ 3
unfolding key_in scalar_table r_type i_type s_type b_type u_type j_type amo_type whole_word fixed span
alu_funct3-lt op = grind arith

pub alu_funct7-lt : (op : AluOp) → alu_funct7 op < 2 ^ 7
unfolding key_in scalar_table r_type i_type s_type b_type u_type j_type amo_type whole_word fixed span
alu_funct7-lt op = grind arith

pub alu_of-keys : (op : AluOp) → alu_of (alu_funct3 op) (alu_funct7 op) ≡ Some op
unfolding key_in scalar_table r_type i_type s_type b_type u_type j_type amo_type whole_word fixed span
alu_of-keys op = grind arith

pub alu_found : (funct3 funct7 : ℕ) (op : AluOp) → alu_of funct3 funct7 ≡ Some op → (alu_funct3 op ≡ funct3) × (alu_funct7 op ≡ funct7)
alu_found funct3 funct7 op e =
    let both = both_true _ _ (find_passes (λ op. (alu_funct3 op == funct3) && (alu_funct7 op == funct7)) all_alus op e) in
    (eqb-true _ funct3 both.0, eqb-true _ funct7 both.1)
