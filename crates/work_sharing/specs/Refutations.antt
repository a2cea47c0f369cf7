-- Small programs, each of which breaks a promise on compiled images: the first that no two harts race; the second that a hart alone finishes or
-- waits at a gate between two phases; the third that an end stays within reach; the last two that every assignment of tasks to harts is reached.
-- Some break others too. Each runs on two harts. This project's own.
use Rattle.std.specs.Prelude.{◌≡◌, ◌⊎◌, ℕ, List, [], ◌∷◌, ◌++◌, replicate, slice_get, true, false, Some, None}
use Rattle.hart_core.specs.declared.harts.Status.TheVariants.{Finished}
use Rattle.hart_core.specs.HartState.{HartState}
use Rattle.multi_hart.specs.Run.{State, all_finished, opened, run}
use Rattle.work_sharing.specs.Turns.{control_words, last_writer, OnlyBy, Race, Waits}

-- ---- A gate that compares with one hart less: a hart goes on while another has still to write what it reads.
--
--     0x00010000  lui x13, 0x200
--     0x00010004  slli x5, x10, 2
--     0x00010008  add x5, x5, x13
--     0x0001000C  sw x11, 16(x5)
--     0x00010010  addi x15, x0, 1
--     0x00010014  addi x16, x11, -1
--     0x00010018  addi x14, x13, 4
--     0x0001001C  amoadd.w x0, x15, (x14)
--     0x00010020  lw x17, 0(x14)
--     0x00010024  blt x17, x16, -4
--     0x00010028  lw x6, 20(x13)
--     0x0001002C  ecall

abbrev pub hasty_text : List ℕ
hasty_text =
    0x002006B7 ∷ 0x00251293 ∷ 0x00D282B3 ∷ 0x00B2A823 ∷ 0x00100793 ∷ 0xFFF58813 ∷ 0x00468713 ∷ 0x00F7202F ∷ 0x00072883 ∷ 0xFF08CEE3 ∷ 0x0146A303
    ∷ 0x00000073 ∷ []

-- the words of two phases, and one for each hart
abbrev pub hasty : State
hasty = opened 0x00010000 hasty_text (replicate 24 0) 2

-- Some turns lead to a race on what are no words of control.
abbrev pub HastyHartsRace : Type 0
HastyHartsRace = (turns : List ℕ) × Race (control_words 2) (run hasty turns)

-- ---- A word that harts wait for and set back, in the gate word of the last phase: a hart waits elsewhere than at a gate between two phases.
--
--     0x00010000  lui x14, 0x200
--     0x00010004  addi x15, x0, 1
--     0x00010008  lw x17, 4(x14)
--     0x0001000C  bne x17, x0, -4
--     0x00010010  sw x15, 4(x14)
--     0x00010014  sw x0, 4(x14)
--     0x00010018  ecall

abbrev pub locking_text : List ℕ
locking_text = 0x00200737 ∷ 0x00100793 ∷ 0x00472883 ∷ 0xFE089EE3 ∷ 0x00F72223 ∷ 0x00072223 ∷ 0x00000073 ∷ []

-- the words of one phase, which is the last
abbrev pub locking : State
locking = opened 0x00010000 locking_text (replicate 8 0) 2

-- After some turns a hart that is given turns alone neither finishes nor waits at a gate, however many they are.
abbrev pub LockedHartsStay : Type 0
LockedHartsStay =
    (turns : List ℕ)
    × ((more : List ℕ) → OnlyBy 0 more
    → Waits 0 0 locking (turns ++ more) ⊎ ((one : HartState) → slice_get (run locking (turns ++ more)).harts 0 ≡ Some one → one.status ≡ Finished)
    → ⊥)

-- ---- A jump to itself: no turns lead to an end.
--
--     0x00010000  jal x0, 0

abbrev pub jumping_text : List ℕ
jumping_text = 0x0000006F ∷ []

abbrev pub jumping : State
jumping = opened 0x00010000 jumping_text (replicate 8 0) 2

abbrev pub JumpsNeverEnd : Type 0
JumpsNeverEnd = (turns : List ℕ) → all_finished (run jumping turns) ≡ false

-- ---- All harts but the first finish at once: no list of turns has the task done by another one.
--
--     0x00010000  bne x10, x0, 12
--     0x00010004  lui x13, 0x200
--     0x00010008  sw x11, 8(x13)
--     0x0001000C  ecall

abbrev pub lonely_text : List ℕ
lonely_text = 0x00051663 ∷ 0x002006B7 ∷ 0x00B6A423 ∷ 0x00000073 ∷ []

-- the words of the phase, and the word that its one task leaves
abbrev pub lonely : State
lonely = opened 0x00010000 lonely_text (replicate 12 0) 2

-- After some turns all have finished, and the first hart did the task.
abbrev pub OthersDoNothing : Type 0
OthersDoNothing =
    ((turns : List ℕ) × (all_finished (run lonely turns) ≡ true) × (last_writer 0x00200008 None lonely turns ≡ Some 0))
    × ((turns : List ℕ) → last_writer 0x00200008 None lonely turns ≡ Some 1 → ⊥)

-- ---- Who draws first does all tasks: each hart can do both, but no list of turns has one hart do the first task and the other the second.
--
--     0x00010000  lui x13, 0x200
--     0x00010004  amoadd.w x12, x11, (x13)
--     0x00010008  bne x12, x0, 12
--     0x0001000C  sw x11, 8(x13)
--     0x00010010  sw x11, 12(x13)
--     0x00010014  ecall

abbrev pub greedy_text : List ℕ
greedy_text = 0x002006B7 ∷ 0x00B6A62F ∷ 0x00061663 ∷ 0x00B6A423 ∷ 0x00B6A623 ∷ 0x00000073 ∷ []

-- the words of the phase, and the word that each of its two tasks leaves
abbrev pub greedy : State
greedy = opened 0x00010000 greedy_text (replicate 16 0) 2

-- After some turns all have finished, and the hart did both tasks.
abbrev pub DoesBoth : ℕ → Type 0
DoesBoth hart =
    (turns : List ℕ) × (all_finished (run greedy turns) ≡ true) × (last_writer 0x00200008 None greedy turns ≡ Some hart)
    × (last_writer 0x0020000C None greedy turns ≡ Some hart)

-- After no turns has the one hart done the first task, and the other the second.
abbrev pub NeverApart : ℕ → ℕ → Type 0
NeverApart one other =
    (turns : List ℕ) → last_writer 0x00200008 None greedy turns ≡ Some one → last_writer 0x0020000C None greedy turns ≡ Some other → ⊥

abbrev pub FirstDoesAll : Type 0
FirstDoesAll = DoesBoth 0 × DoesBoth 1 × NeverApart 0 1 × NeverApart 1 0
