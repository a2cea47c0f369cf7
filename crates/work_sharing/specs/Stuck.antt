-- Not every program ends on fair lists: two harts that wait at a gate for a third still run after any number of rounds, on some list of them. So
-- no count of rounds is enough for it. What the gate of a `Program` waits for is the number of its harts; this one's waits for one more, by
-- the text below. This project's own.
use Rattle.std.specs.Prelude.{◌≡◌, ◌≤◌, ℕ, List, [], ◌∷◌, length, slice_get, replicate, true, false, Some}
use Rattle.std.specs.List.{concat}
use Rattle.hart_core.specs.declared.harts.Status.TheVariants.{Running}
use Rattle.hart_core.specs.HartState.{HartState}
use Rattle.multi_hart.specs.Run.{all_finished, State, opened, run}
use Rattle.work_sharing.specs.Turns.{are_rounds}

-- from 0x00010000 on:
--
--     0x00010000  lui x14, 0x200
--     0x00010004  addi x15, x0, 1
--     0x00010008  addi x16, x11, 1
--     0x0001000C  amoadd.w x0, x15, (x14)
--     0x00010010  lw x17, 0(x14)
--     0x00010014  bne x17, x16, -4
--     0x00010018  ecall
abbrev pub stuck_text : List ℕ
stuck_text = 0x00200737 ∷ 0x00100793 ∷ 0x00158813 ∷ 0x00F7202F ∷ 0x00072883 ∷ 0xFF089EE3 ∷ 0x00000073 ∷ []

-- two harts, and a gate word
abbrev pub stuck : State
stuck = opened 0x00010000 stuck_text (replicate 4 0) 2

-- however many rounds are asked for, there are this many after which no hart has finished, though each runs
abbrev pub NoCount : Type 0
NoCount =
    (count : ℕ)
    → (rounds : List (List ℕ)) × (are_rounds 2 rounds ≡ true) × (count ≤ length rounds)
    × (all_finished (run stuck (concat rounds)) ≡ false)
    × ((number : ℕ) (hart : HartState) → slice_get (run stuck (concat rounds)).harts number ≡ Some hart → hart.status ≡ Running)
