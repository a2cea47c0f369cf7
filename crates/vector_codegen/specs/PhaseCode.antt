-- The code of phases one after the other, around the code of their tasks, as a list of instructions. This project's own.
--
--     begin:          x13, x14, x15, x16           what the phase keeps: ticket, gate, 1, number of tasks
--                     jal x0, draw
--     door:           ecall                        of the last phase
--                     (or: one more at the gate, wait until all are, and go on past the phase)
--     draw:           amoadd.w x12, x15, (x13)     draw the next number
--                     bgeu x12, x16, door          no task has it
--                     ..                           the task's code
--                     jal x0, draw
use Rattle.std.specs.Prelude.{ℕ, zero, suc, ◌+◌, ◌*◌, ◌==◌, Bool, true, false, List, [], ◌∷◌, ◌++◌, length, ℤ, pos, negsuc}
use Rattle.rv_insn.specs.declared.instructions.Insn.{Insn}
use Rattle.rv_insn.specs.declared.instructions.Insn.TheVariants.{AmoaddW, Branch, Load, Jal, Ecall}
use Rattle.rv_insn.specs.declared.operations.BranchOp.TheVariants.{Bgeu, Bne}
use Rattle.rv_insn.specs.declared.operations.LoadOp.TheVariants.{Lw}
use Rattle.work_sharing.specs.Turns.{ticket_word}
use Rattle.task_code_scalar.specs.Code.{forth, back}
use Rattle.task_code.specs.Tasks.{restored}

-- how many tasks a phase has, and the code of one
pub record Part : Type 0 where
  pub tasks : ℕ
  pub insns : List Insn

-- where a hart goes that draws no task; in all phases but the last there follow this many words of the phase
abbrev pub door_code : Bool → ℕ → List Insn
door_code true words = Ecall ∷ []
door_code false words = AmoaddW 0 14 15 false false ∷ Load Lw 17 14 (pos 0) ∷ Branch Bne 17 11 (negsuc 1) ∷ Jal 0 (forth (words + 1)) ∷ []

-- how many words the door has
abbrev pub door_words : Bool → ℕ
door_words true = 1
door_words false = 4

-- from the draw's second word to the door, in half-words
abbrev pub to_door : Bool → ℤ
to_door true = negsuc 3
to_door false = negsuc 9

abbrev pub draw_code : Bool → List Insn
draw_code is_last = AmoaddW 12 13 15 false false ∷ Branch Bgeu 12 16 (to_door is_last) ∷ []

-- the tasks' code, and back to the draw
abbrev pub tasks_code : List Insn → List Insn
tasks_code insns = insns ++ (Jal 0 (back (length insns + 2)) ∷ [])

abbrev pub phase_code : Bool → ℕ → Part → List Insn
phase_code is_last ticket part =
    restored ticket part.tasks
    ++ (Jal 0 (forth (door_words is_last + 1)) ∷ (door_code is_last (length part.insns + 3) ++ (draw_code is_last ++ tasks_code part.insns)))

-- phases from the one with this number on, the last of which ends the program
abbrev pub program : ℕ → List Part → List Insn
program number [] = []
program number (part ∷ []) = phase_code true (ticket_word number) part
program number (part ∷ other ∷ others) = phase_code false (ticket_word number) part ++ program (suc number) (other ∷ others)

-- where the code of each ends in words, where the first of them has this number and begins after this many words
unfoldable pub ends_from : ℕ → ℕ → List Part → List ℕ
ends_from number first [] = []
ends_from number first (part ∷ parts) =
    (first + length (phase_code (length parts == 0) (ticket_word number) part))
    ∷ ends_from (suc number) (first + length (phase_code (length parts == 0) (ticket_word number) part)) parts

-- ---- addresses

-- where a phase begins, by how many stand before it, and where the first begins
abbrev pub begin : ℕ → List Part → ℕ → ℕ
begin at parts zero = at
begin at [] (suc k) = at
begin at (part ∷ parts) (suc k) = begin (at + 4 * (length part.insns + 16)) parts k

-- of a phase that begins here
abbrev pub door_at : ℕ → ℕ
door_at at = at + 36

abbrev pub draw_at : Bool → ℕ → ℕ
draw_at is_last at = at + 36 + 4 * door_words is_last
