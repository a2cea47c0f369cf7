-- The state of one hart.
-- RISC-V Unprivileged ISA 20191213, section 2.1 "Programmers' Model for Base Integer ISA"; Vector Extension
-- 1.0, chapter 3 "Vector Extension Programmer's Model". The status, and what a hart holds at the start, are this project's own.
use Rattle.std.specs.Prelude.{ℕ, zero, suc, Bool, true, false, List, slice_index, slice_index_or, slice_set, replicate, []}
use Rattle.hart_core.specs.declared.harts.Status.{Status}
use Rattle.hart_core.specs.declared.harts.Status.TheVariants.{Running, Finished, Trapped}
use Rattle.lanes.specs.Words as word
use Rattle.vector_unit.specs.Vector.{Vectors, opening_vector_state}

pub record HartState : Type 0 where
  pub pc : ℕ
  -- 32 numbers of 32 bits, of which the first is never read
  pub registers : List ℕ
  -- 32 lists of 16 bytes
  pub vectors : List (List ℕ)
  pub vl : ℕ
  pub vtype : ℕ
  pub status : Status

-- x0 reads 0
abbrev pub register : HartState → ℕ → ℕ
register hart zero = 0
register hart (suc r) = slice_index hart.registers (suc r)

-- and a write to it is lost
abbrev pub registers_after : List ℕ → ℕ → ℕ → List ℕ
registers_after registers zero value = registers
registers_after registers (suc r) value = slice_set registers (suc r) value

abbrev pub with_register : HartState → ℕ → ℕ → HartState
with_register hart r value = record hart { registers = registers_after hart.registers r value }

abbrev pub at_pc : HartState → ℕ → HartState
at_pc hart pc = record hart { pc = pc }

-- the address of the next instruction in text, modulo 2^32: section 1.4 "Memory"
abbrev pub next_pc : HartState → ℕ
next_pc hart = word.add 32 hart.pc 4

-- the next instruction in text is due
abbrev pub advanced : HartState → HartState
advanced hart = at_pc hart (next_pc hart)

-- a register is written, and the next instruction is due
abbrev pub given : HartState → ℕ → ℕ → HartState
given hart rd value = advanced (with_register hart rd value)

abbrev pub with_status : HartState → Status → HartState
with_status hart status = record hart { status = status }

-- the hart has executed ECALL
abbrev pub has_finished : Status → Bool
has_finished Running = false
has_finished Finished = true
has_finished (Trapped trap) = false

-- the part that is the vector unit's
abbrev pub vectors_of : HartState → Vectors
vectors_of hart = record { registers = hart.vectors; vl = hart.vl; vtype = hart.vtype }

abbrev pub with_vectors : HartState → Vectors → HartState
with_vectors hart state = record hart { vectors = state.registers; vl = state.vl; vtype = state.vtype }

-- a hart at the start: x10 is its number, x11 the number of harts, all else is 0
abbrev pub opening_hart : ℕ → ℕ → ℕ → HartState
opening_hart entry count number = record {
  pc = entry;
  registers = slice_set (slice_set (replicate 32 0) 10 number) 11 count;
  vectors = opening_vector_state.registers;
  vl = opening_vector_state.vl;
  vtype = opening_vector_state.vtype;
  status = Running;
}

-- the 16 bytes of a vector register
abbrev pub vector : HartState → ℕ → List ℕ
vector hart v = slice_index_or hart.vectors v []
