-- What the lines of the example mean.
use Rattle.multi_hart_laws.specs.Alone.{Says}
use Rattle.std.proofs.Common.{false, refl}
use Rattle.std.specs.Prelude.{pos}
use Rattle.rv_insn.specs.declared.instructions.Insn.TheVariants.{AmoaddW, Branch, Load, Ecall}
use Rattle.rv_insn.specs.declared.operations.BranchOp.TheVariants.{Bgeu, Bne}
use Rattle.rv_insn.specs.declared.operations.LoadOp.TheVariants.{Lw}
use Rattle.rv_encoding.specs.Decoding.{decoded}
use Rattle.std.specs.Prelude.{negsuc}
use Rattle.rv_insn.specs.declared.instructions.Insn.TheVariants.{Store, Lui, Jal, AluImm, Shift, Alu}
use Rattle.rv_insn.specs.declared.operations.StoreOp.TheVariants.{Sw}
use Rattle.rv_insn.specs.declared.operations.AluImmOp.TheVariants.{Addi}
use Rattle.rv_insn.specs.declared.operations.ShiftOp.TheVariants.{Slli}
use Rattle.rv_insn.specs.declared.operations.AluOp.TheVariants.{Add, Sub}
use Rattle.rv_encoding.specs.Decoding as decode
use Rattle.rv_encoding.specs.Operations.{key_in}
use Rattle.rv_insn.specs.Table.{scalar_table, r_type, i_type, s_type, b_type, u_type, j_type, amo_type, whole_word}
use Rattle.rv_insn.specs.Encoding.{fixed, span}
use Rattle.work_sharing.specs.Example.{example_text}

pub line-0 : Says example_text 65536 (Lui 13 512)
unfolding decoded decode.rd_of decode.u_immediate_of key_in scalar_table r_type i_type s_type b_type u_type j_type amo_type whole_word fixed span
line-0 = record { word = 0x002006B7; fetched = refl; decoded = refl }

pub line-1 : Says example_text 65540 (AluImm Addi 14 13 (pos 4))
unfolding decoded decode.rd_of decode.rs1_of decode.i_immediate_of key_in scalar_table r_type i_type s_type b_type u_type j_type amo_type whole_word fixed span
line-1 = record { word = 0x00468713; fetched = refl; decoded = refl }

pub line-2 : Says example_text 65544 (AluImm Addi 15 0 (pos 1))
unfolding decoded decode.rd_of decode.rs1_of decode.i_immediate_of key_in scalar_table r_type i_type s_type b_type u_type j_type amo_type whole_word fixed span
line-2 = record { word = 0x00100793; fetched = refl; decoded = refl }

pub line-3 : Says example_text 65548 (AluImm Addi 16 0 (pos 2))
unfolding decoded decode.rd_of decode.rs1_of decode.i_immediate_of key_in scalar_table r_type i_type s_type b_type u_type j_type amo_type whole_word fixed span
line-3 = record { word = 0x00200813; fetched = refl; decoded = refl }

pub line-4 : Says example_text 65552 (AmoaddW 12 13 15 false false)
unfolding decoded decode.rd_of decode.rs1_of decode.rs2_of key_in scalar_table r_type i_type s_type b_type u_type j_type amo_type whole_word fixed span
line-4 = record { word = 0x00F6A62F; fetched = refl; decoded = refl }

pub line-5 : Says example_text 65556 (Branch Bgeu 12 16 (pos 20))
unfolding decoded decode.rs1_of decode.rs2_of decode.b_offset_of key_in scalar_table r_type i_type s_type b_type u_type j_type amo_type whole_word fixed span
line-5 = record { word = 0x03067463; fetched = refl; decoded = refl }

pub line-6 : Says example_text 65560 (Shift Slli 5 10 2)
unfolding decoded decode.rd_of decode.rs1_of decode.rs2_of key_in scalar_table r_type i_type s_type b_type u_type j_type amo_type whole_word fixed span
line-6 = record { word = 0x00251293; fetched = refl; decoded = refl }

pub line-7 : Says example_text 65564 (Alu Add 5 5 13)
unfolding decoded decode.rd_of decode.rs1_of decode.rs2_of key_in scalar_table r_type i_type s_type b_type u_type j_type amo_type whole_word fixed span
line-7 = record { word = 0x00D282B3; fetched = refl; decoded = refl }

pub line-8 : Says example_text 65568 (Store Sw 5 12 (pos 32))
unfolding decoded decode.rs1_of decode.rs2_of decode.s_immediate_of key_in scalar_table r_type i_type s_type b_type u_type j_type amo_type whole_word fixed span
line-8 = record { word = 0x02C2A023; fetched = refl; decoded = refl }

pub line-9 : Says example_text 65572 (Load Lw 7 5 (pos 32))
unfolding decoded decode.rd_of decode.rs1_of decode.i_immediate_of key_in scalar_table r_type i_type s_type b_type u_type j_type amo_type whole_word fixed span
line-9 = record { word = 0x0202A383; fetched = refl; decoded = refl }

pub line-10 : Says example_text 65576 (Shift Slli 6 12 2)
unfolding decoded decode.rd_of decode.rs1_of decode.rs2_of key_in scalar_table r_type i_type s_type b_type u_type j_type amo_type whole_word fixed span
line-10 = record { word = 0x00261313; fetched = refl; decoded = refl }

pub line-11 : Says example_text 65580 (Alu Add 6 6 13)
unfolding decoded decode.rd_of decode.rs1_of decode.rs2_of key_in scalar_table r_type i_type s_type b_type u_type j_type amo_type whole_word fixed span
line-11 = record { word = 0x00D30333; fetched = refl; decoded = refl }

pub line-12 : Says example_text 65584 (AluImm Addi 7 7 (pos 5))
unfolding decoded decode.rd_of decode.rs1_of decode.i_immediate_of key_in scalar_table r_type i_type s_type b_type u_type j_type amo_type whole_word fixed span
line-12 = record { word = 0x00538393; fetched = refl; decoded = refl }

pub line-13 : Says example_text 65588 (Store Sw 6 7 (pos 16))
unfolding decoded decode.rs1_of decode.rs2_of decode.s_immediate_of key_in scalar_table r_type i_type s_type b_type u_type j_type amo_type whole_word fixed span
line-13 = record { word = 0x00732823; fetched = refl; decoded = refl }

pub line-14 : Says example_text 65592 (Jal 0 (negsuc 19))
unfolding decoded decode.rd_of decode.j_offset_of key_in scalar_table r_type i_type s_type b_type u_type j_type amo_type whole_word fixed span
line-14 = record { word = 0xFD9FF06F; fetched = refl; decoded = refl }

pub line-15 : Says example_text 65596 (AmoaddW 0 14 15 false false)
unfolding decoded decode.rd_of decode.rs1_of decode.rs2_of key_in scalar_table r_type i_type s_type b_type u_type j_type amo_type whole_word fixed span
line-15 = record { word = 0x00F7202F; fetched = refl; decoded = refl }

pub line-16 : Says example_text 65600 (Load Lw 17 14 (pos 0))
unfolding decoded decode.rd_of decode.rs1_of decode.i_immediate_of key_in scalar_table r_type i_type s_type b_type u_type j_type amo_type whole_word fixed span
line-16 = record { word = 0x00072883; fetched = refl; decoded = refl }

pub line-17 : Says example_text 65604 (Branch Bne 17 11 (negsuc 1))
unfolding decoded decode.rs1_of decode.rs2_of decode.b_offset_of key_in scalar_table r_type i_type s_type b_type u_type j_type amo_type whole_word fixed span
line-17 = record { word = 0xFEB89EE3; fetched = refl; decoded = refl }

pub line-18 : Says example_text 65608 (AluImm Addi 13 13 (pos 8))
unfolding decoded decode.rd_of decode.rs1_of decode.i_immediate_of key_in scalar_table r_type i_type s_type b_type u_type j_type amo_type whole_word fixed span
line-18 = record { word = 0x00868693; fetched = refl; decoded = refl }

pub line-19 : Says example_text 65612 (AluImm Addi 14 14 (pos 8))
unfolding decoded decode.rd_of decode.rs1_of decode.i_immediate_of key_in scalar_table r_type i_type s_type b_type u_type j_type amo_type whole_word fixed span
line-19 = record { word = 0x00870713; fetched = refl; decoded = refl }

pub line-20 : Says example_text 65616 (AmoaddW 12 13 15 false false)
unfolding decoded decode.rd_of decode.rs1_of decode.rs2_of key_in scalar_table r_type i_type s_type b_type u_type j_type amo_type whole_word fixed span
line-20 = record { word = 0x00F6A62F; fetched = refl; decoded = refl }

pub line-21 : Says example_text 65620 (Branch Bgeu 12 16 (pos 16))
unfolding decoded decode.rs1_of decode.rs2_of decode.b_offset_of key_in scalar_table r_type i_type s_type b_type u_type j_type amo_type whole_word fixed span
line-21 = record { word = 0x03067063; fetched = refl; decoded = refl }

pub line-22 : Says example_text 65624 (Shift Slli 6 12 2)
unfolding decoded decode.rd_of decode.rs1_of decode.rs2_of key_in scalar_table r_type i_type s_type b_type u_type j_type amo_type whole_word fixed span
line-22 = record { word = 0x00261313; fetched = refl; decoded = refl }

pub line-23 : Says example_text 65628 (Alu Sub 5 13 6)
unfolding decoded decode.rd_of decode.rs1_of decode.rs2_of key_in scalar_table r_type i_type s_type b_type u_type j_type amo_type whole_word fixed span
line-23 = record { word = 0x406682B3; fetched = refl; decoded = refl }

pub line-24 : Says example_text 65632 (Load Lw 7 5 (pos 12))
unfolding decoded decode.rd_of decode.rs1_of decode.i_immediate_of key_in scalar_table r_type i_type s_type b_type u_type j_type amo_type whole_word fixed span
line-24 = record { word = 0x00C2A383; fetched = refl; decoded = refl }

pub line-25 : Says example_text 65636 (Alu Add 6 6 13)
unfolding decoded decode.rd_of decode.rs1_of decode.rs2_of key_in scalar_table r_type i_type s_type b_type u_type j_type amo_type whole_word fixed span
line-25 = record { word = 0x00D30333; fetched = refl; decoded = refl }

pub line-26 : Says example_text 65640 (AluImm Addi 7 7 (pos 10))
unfolding decoded decode.rd_of decode.rs1_of decode.i_immediate_of key_in scalar_table r_type i_type s_type b_type u_type j_type amo_type whole_word fixed span
line-26 = record { word = 0x00A38393; fetched = refl; decoded = refl }

pub line-27 : Says example_text 65644 (Store Sw 6 7 (pos 16))
unfolding decoded decode.rs1_of decode.rs2_of decode.s_immediate_of key_in scalar_table r_type i_type s_type b_type u_type j_type amo_type whole_word fixed span
line-27 = record { word = 0x00732823; fetched = refl; decoded = refl }

pub line-28 : Says example_text 65648 (Jal 0 (negsuc 15))
unfolding decoded decode.rd_of decode.j_offset_of key_in scalar_table r_type i_type s_type b_type u_type j_type amo_type whole_word fixed span
line-28 = record { word = 0xFE1FF06F; fetched = refl; decoded = refl }

pub line-29 : Says example_text 65652 (Ecall)
unfolding decoded key_in scalar_table r_type i_type s_type b_type u_type j_type amo_type whole_word fixed span
line-29 = record { word = 0x00000073; fetched = refl; decoded = refl }
