-- What the words of the example mean.
use Rattle.std.proofs.Common.{◌≡◌, List, [], ◌∷◌, ◌++◌, refl}
use Rattle.std.specs.Prelude.{pos, Some}
use Rattle.rv_insn.specs.declared.instructions.Insn.{Insn}
use Rattle.rv_insn.specs.declared.instructions.Insn.TheVariants.{Lui, Store as Save, AluImm, Shift, Alu}
use Rattle.rv_insn.specs.declared.operations.StoreOp.TheVariants.{Sw}
use Rattle.rv_insn.specs.declared.operations.AluImmOp.TheVariants.{Addi}
use Rattle.rv_insn.specs.declared.operations.ShiftOp.TheVariants.{Slli}
use Rattle.rv_insn.specs.declared.operations.AluOp.TheVariants.{Add}
use Rattle.rv_encoding.specs.Decoding.{decoded}
use Rattle.rv_encoding.specs.Decoding as decode
use Rattle.rv_encoding.specs.Operations.{key_in}
use Rattle.rv_insn.specs.Table.{scalar_table, r_type, i_type, s_type, b_type, u_type, j_type, amo_type, whole_word}
use Rattle.rv_insn.specs.Encoding.{fixed, span}
use Rattle.task_code_scalar.specs.Words.{Spell}
use Rattle.task_code_statements.specs.Tasks.{restored}
use Rattle.task_code.specs.Example.{example_text, example_ticket}

means-0 : decoded 0x00760A13 ≡ Some (AluImm Addi 20 12 (pos 7))
unfolding decoded decode.rd_of decode.rs1_of decode.i_immediate_of key_in scalar_table r_type i_type s_type b_type u_type j_type amo_type whole_word fixed span
means-0 = refl

means-1 : decoded 0x00261793 ≡ Some (Shift Slli 15 12 2)
unfolding decoded decode.rd_of decode.rs1_of decode.rs2_of key_in scalar_table r_type i_type s_type b_type u_type j_type amo_type whole_word fixed span
means-1 = refl

means-2 : decoded 0x002006B7 ≡ Some (Lui 13 512)
unfolding decoded decode.rd_of decode.u_immediate_of key_in scalar_table r_type i_type s_type b_type u_type j_type amo_type whole_word fixed span
means-2 = refl

means-3 : decoded 0x00D787B3 ≡ Some (Alu Add 15 15 13)
unfolding decoded decode.rd_of decode.rs1_of decode.rs2_of key_in scalar_table r_type i_type s_type b_type u_type j_type amo_type whole_word fixed span
means-3 = refl

means-4 : decoded 0x0147A423 ≡ Some (Save Sw 15 20 (pos 8))
unfolding decoded decode.rs1_of decode.rs2_of decode.s_immediate_of key_in scalar_table r_type i_type s_type b_type u_type j_type amo_type whole_word fixed span
means-4 = refl

means-5 : decoded 0x00068693 ≡ Some (AluImm Addi 13 13 (pos 0))
unfolding decoded decode.rd_of decode.rs1_of decode.i_immediate_of key_in scalar_table r_type i_type s_type b_type u_type j_type amo_type whole_word fixed span
means-5 = refl

means-6 : decoded 0x00200737 ≡ Some (Lui 14 512)
unfolding decoded decode.rd_of decode.u_immediate_of key_in scalar_table r_type i_type s_type b_type u_type j_type amo_type whole_word fixed span
means-6 = refl

means-7 : decoded 0x00470713 ≡ Some (AluImm Addi 14 14 (pos 4))
unfolding decoded decode.rd_of decode.rs1_of decode.i_immediate_of key_in scalar_table r_type i_type s_type b_type u_type j_type amo_type whole_word fixed span
means-7 = refl

means-8 : decoded 0x000007B7 ≡ Some (Lui 15 0)
unfolding decoded decode.rd_of decode.u_immediate_of key_in scalar_table r_type i_type s_type b_type u_type j_type amo_type whole_word fixed span
means-8 = refl

means-9 : decoded 0x00178793 ≡ Some (AluImm Addi 15 15 (pos 1))
unfolding decoded decode.rd_of decode.rs1_of decode.i_immediate_of key_in scalar_table r_type i_type s_type b_type u_type j_type amo_type whole_word fixed span
means-9 = refl

means-10 : decoded 0x00000837 ≡ Some (Lui 16 0)
unfolding decoded decode.rd_of decode.u_immediate_of key_in scalar_table r_type i_type s_type b_type u_type j_type amo_type whole_word fixed span
means-10 = refl

means-11 : decoded 0x00280813 ≡ Some (AluImm Addi 16 16 (pos 2))
unfolding decoded decode.rd_of decode.rs1_of decode.i_immediate_of key_in scalar_table r_type i_type s_type b_type u_type j_type amo_type whole_word fixed span
means-11 = refl

-- the value, and the address but for 8
abbrev pub making : List Insn
making =
    AluImm Addi 20 12 (pos 7)
    ∷ Shift Slli 15 12 2
    ∷ Lui 13 512
    ∷ Alu Add 15 15 13
    ∷ []

abbrev pub saving : List Insn
saving = Save Sw 15 20 (pos 8) ∷ []

abbrev pub example_insns : List Insn
example_insns = making ++ (saving ++ restored example_ticket 2)

pub example-spelled : Spell example_text example_insns
example-spelled = (
  means-0,
  (means-1, (means-2, (means-3, (means-4, (means-2, (means-5, (means-6, (means-7, (means-8, (means-9, (means-10, (means-11, tt)))))))))))),
)
