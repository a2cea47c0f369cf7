-- One phase: tasks that harts draw by a ticket word, and a gate word at which they wait for one another before the next phase; and
-- the code of both.
-- This project's own.
--
-- Registers. x10 is the hart's number and x11 the number of harts, from the start on. The draw leaves the drawn number in x12: a
-- task's code finds its number there. x13 and x14 hold the addresses of the ticket word and of the gate word, x15 the number 1, x16
-- the number of tasks, and x17 what the gate's load found. A task's code keeps x10, x11, x13, x14, x15 and x16; it may change every other
-- register (x12 and x17 too), the vector registers, vl and vtype.
use Rattle.std.specs.Prelude.{◌≡◌, ◌≤◌, ◌<◌, ℕ, ◌+◌, ◌%◌, ◌^◌, List, length, slice_get, slice_index, Bool, false, Some, ℤ, pos}
use Rattle.rv_insn.specs.declared.instructions.Insn.TheVariants.{AmoaddW, Branch, Load, Ecall}
use Rattle.rv_insn.specs.declared.operations.BranchOp.TheVariants.{Bgeu, Bne}
use Rattle.rv_insn.specs.declared.operations.LoadOp.TheVariants.{Lw}
use Rattle.memory.specs.Access.{data_start, most_bytes, AreBytes}
use Rattle.hart_core.specs.declared.harts.Status.TheVariants.{Running}
use Rattle.hart_core.specs.HartState.{HartState}
use Rattle.hart_core.specs.Scalar.{offset_from}
use Rattle.multi_hart_laws.specs.Uses.{Use, Control, Job}
use Rattle.multi_hart_laws.specs.Alone.{Says}

pub record Phase : Type 0 where
  -- the words of text, how many data bytes and how many harts there are: the same in all phases of a program
  pub text : List ℕ
  pub size : ℕ
  pub harts : ℕ
  -- the tasks are numbered from 0
  pub tasks : ℕ
  -- the address of the draw's code, and where a hart goes that draws no task: the gate's code, or ECALL in the last phase
  pub draw_code : ℕ
  pub door : ℕ
  -- the addresses of the ticket word and of the gate word
  pub ticket : ℕ
  pub gate : ℕ
  -- what the byte at an address is for
  pub uses : ℕ → Use
  -- which of the bytes that a task owns it writes, by the task and the address
  pub writes : ℕ → ℕ → Bool
  -- what the places meet that one turn of a task writes, if a byte that the task owns is among them
  pub rule : ℕ → List ℕ → Bool
  -- how many turns a job takes after its first
  pub turns : Job → ℕ
  -- the bytes before the phase, and those that its tasks leave
  pub start : ℕ → ℕ
  pub result : ℕ → ℕ

-- what registers hold at the draw, at a task's beginning and end, and at the door
pub record Kept (phase : Phase) (hart : ℕ) (registers : List ℕ) (vectors : List (List ℕ)) : Type 0 where
  pub size : length registers ≡ 32
  pub vector_count : length vectors ≡ 32
  pub vector_bytes : (v : ℕ) (bytes : List ℕ) → slice_get vectors v ≡ Some bytes → (length bytes ≡ 16) × AreBytes bytes
  pub number : slice_index registers 10 ≡ hart
  pub harts : slice_index registers 11 ≡ phase.harts
  pub ticket : slice_index registers 13 ≡ phase.ticket
  pub gate : slice_index registers 14 ≡ phase.gate
  pub one : slice_index registers 15 ≡ 1
  pub tasks : slice_index registers 16 ≡ phase.tasks

-- the hart of that number runs, is at the address, and has what the phase keeps
pub record Stands (phase : Phase) (number : ℕ) (hart : HartState) (address : ℕ) : Type 0 where
  pub running : hart.status ≡ Running
  pub pc : hart.pc ≡ address
  pub kept : Kept phase number hart.registers hart.vectors

-- the word of data at the address is there for control alone
pub record IsControl (phase : Phase) (address : ℕ) : Type 0 where
  pub aligned : address % 4 ≡ 0
  pub above : data_start ≤ address
  pub below : address + 4 ≤ data_start + phase.size
  pub first : phase.uses address ≡ Control
  pub second : phase.uses (address + 1) ≡ Control
  pub third : phase.uses (address + 2) ≡ Control
  pub fourth : phase.uses (address + 3) ≡ Control

-- The draw. A task's code is from the draw's third word on, and ends by going to the draw. The door may stand on either side: in
-- front of the draw, its branch reaches it however long the tasks' code is.
--
--     draw_code:      amoadd.w x12, x15, (x13)     draw the next number
--                     bgeu x12, x16, door          no task has it
--                     ..                           the task's code
pub record Code (phase : Phase) : Type 0 where
  -- the branch's offset, in half-words
  pub out : ℤ
  pub draw : Says phase.text phase.draw_code (AmoaddW 12 13 15 false false)
  pub test : Says phase.text (phase.draw_code + 4) (Branch Bgeu 12 16 out)
  pub out_is : offset_from (phase.draw_code + 4) out ≡ phase.door
  pub aligned : phase.door % 4 ≡ 0
  pub draw_fits : phase.draw_code + 8 < 2 ^ 32
  pub tickets : IsControl phase phase.ticket
  pub gates : IsControl phase phase.gate
  pub two_words : phase.gate ≡ phase.ticket + 4
  pub size : phase.size ≤ most_bytes
  -- so that the ticket word never wraps
  pub few : phase.tasks + phase.harts + 1 < 2 ^ 32

-- The gate, at the door of every phase but the last. What follows its third word is the way to the next phase.
--
--     door:           amoadd.w x0, x15, (x14)      one more hart is at the gate
--     door + 4:       lw x17, 0(x14)
--                     bne x17, x11, door + 4       until all are
pub record HasGate (phase : Phase) : Type 0 where
  pub back : ℤ
  pub add : Says phase.text phase.door (AmoaddW 0 14 15 false false)
  pub look : Says phase.text (phase.door + 4) (Load Lw 17 14 (pos 0))
  pub again : Says phase.text (phase.door + 8) (Branch Bne 17 11 back)
  pub back_is : offset_from (phase.door + 8) back ≡ phase.door + 4
  pub gate_fits : phase.door + 12 < 2 ^ 32

-- the last phase's door
abbrev pub HasEnd : Phase → Type 0
HasEnd phase = Says phase.text phase.door Ecall
