-- A program of two phases with two tasks each, written by hand: an instance of all that is promised, so that no premise of it is
-- one that nothing meets. This project's own.
--
-- Task t of the first phase stores its number into its hart's own word, loads it back, adds 5 and leaves that in word 4 + t of the
-- data. Task t of the second phase loads what the *other* task of the first phase left, adds 10 and leaves that in word 6 + t. So the
-- words 6 and 7 are 16 and 15 wherever all harts have finished. Each task writes all bytes that it owns, a word at a time.
use Rattle.std.specs.Prelude.{◌≡◌, ◌≤◌, ℕ, zero, suc, ◌+◌, ◌-◌, ◌/◌, ◌%◌, ◌*◌, nat_lt, ◌==◌, if◌then◌else◌, List, [], ◌∷◌, ◌++◌, length, slice_index, replicate}
use Rattle.std.specs.Prelude.{Bool, true}
use Rattle.std.specs.Int.{w32, to_le_bytes}
use Rattle.std.specs.List.{concat}
use Rattle.memory.specs.Access.{data_start, word_at}
use Rattle.multi_hart.specs.Run.{all_finished, opened, run}
use Rattle.multi_hart_laws.specs.Uses.{Use, Control, Fixed, Owned, Private, Job, Task, Setup}
use Rattle.work_sharing.specs.Phases.{Phase}
use Rattle.work_sharing.specs.Solo.{TaskWrites}
use Rattle.work_sharing.specs.Programs.{Program, Opens}
use Rattle.work_sharing.specs.Fairness.{enough_rounds}
use Rattle.work_sharing.specs.Turns.{are_rounds}

-- from 0x00010000 on:
--
--     0x00010000  lui x13, 0x200
--     0x00010004  addi x14, x13, 4
--     0x00010008  addi x15, x0, 1
--     0x0001000C  addi x16, x0, 2
--     0x00010010  amoadd.w x12, x15, (x13)
--     0x00010014  bgeu x12, x16, 40
--     0x00010018  slli x5, x10, 2
--     0x0001001C  add x5, x5, x13
--     0x00010020  sw x12, 32(x5)
--     0x00010024  lw x7, 32(x5)
--     0x00010028  slli x6, x12, 2
--     0x0001002C  add x6, x6, x13
--     0x00010030  addi x7, x7, 5
--     0x00010034  sw x7, 16(x6)
--     0x00010038  jal x0, -40
--     0x0001003C  amoadd.w x0, x15, (x14)
--     0x00010040  lw x17, 0(x14)
--     0x00010044  bne x17, x11, -4
--     0x00010048  addi x13, x13, 8
--     0x0001004C  addi x14, x14, 8
--     0x00010050  amoadd.w x12, x15, (x13)
--     0x00010054  bgeu x12, x16, 32
--     0x00010058  slli x6, x12, 2
--     0x0001005C  sub x5, x13, x6
--     0x00010060  lw x7, 12(x5)
--     0x00010064  add x6, x6, x13
--     0x00010068  addi x7, x7, 10
--     0x0001006C  sw x7, 16(x6)
--     0x00010070  jal x0, -32
--     0x00010074  ecall
abbrev pub example_text : List ℕ
example_text =
    0x002006B7
    ∷ 0x00468713
    ∷ 0x00100793
    ∷ 0x00200813
    ∷ 0x00F6A62F
    ∷ 0x03067463
    ∷ 0x00251293
    ∷ 0x00D282B3
    ∷ 0x02C2A023
    ∷ 0x0202A383
    ∷ 0x00261313
    ∷ 0x00D30333
    ∷ 0x00538393
    ∷ 0x00732823
    ∷ 0xFD9FF06F
    ∷ 0x00F7202F
    ∷ 0x00072883
    ∷ 0xFEB89EE3
    ∷ 0x00868693
    ∷ 0x00870713
    ∷ 0x00F6A62F
    ∷ 0x03067063
    ∷ 0x00261313
    ∷ 0x406682B3
    ∷ 0x00C2A383
    ∷ 0x00D30333
    ∷ 0x00A38393
    ∷ 0x00732823
    ∷ 0xFE1FF06F
    ∷ 0x00000073
    ∷ []

-- 64 bytes: the two words of each phase, the four results, and a word of its own for each of eight harts
abbrev pub example_data : List ℕ
example_data = replicate 64 0

-- what the words of data are for, by their numbers
abbrev pub first_uses : ℕ → Use
first_uses word =
    if nat_lt word 2 then Control
    else (if nat_lt word 4 then Fixed
    else (if nat_lt word 6 then Owned (word - 4)
    else (if nat_lt word 8 then Fixed
    else (if nat_lt word 16 then Private (word - 8)
    else Control))))

abbrev pub second_uses : ℕ → Use
second_uses word =
    if nat_lt word 4 then Control
    else (if nat_lt word 6 then Fixed
    else (if nat_lt word 8 then Owned (word - 6)
    else (if nat_lt word 16 then Private (word - 8)
    else Control)))

-- what the phases leave in the words of data
abbrev pub first_result : ℕ → ℕ
first_result word = if nat_lt word 4 then 0 else (if nat_lt word 6 then word + 1 else 0)

abbrev pub second_result : ℕ → ℕ
second_result word = if nat_lt word 6 then 0 else (if nat_lt word 8 then 22 - word else 0)

-- the same by the addresses of bytes
abbrev pub use_by : (ℕ → Use) → ℕ → Use
use_by words address = if nat_lt address data_start then Control else words ((address - data_start) / 4)

abbrev pub byte_by : (ℕ → ℕ) → ℕ → ℕ
byte_by words address = slice_index (to_le_bytes w32 (words ((address - data_start) / 4))) ((address - data_start) % 4)

abbrev pub turns_by : ℕ → ℕ → Job → ℕ
turns_by task setup (Task number) = task
turns_by task setup Setup = setup

abbrev pub writes_a_word : ℕ → List ℕ → Bool
writes_a_word task places = length places == 4

abbrev pub first_phase : ℕ → Phase
first_phase harts = record {
  text = example_text;
  size = 64;
  harts = harts;
  tasks = 2;
  draw_code = 0x00010010;
  door = 0x0001003C;
  ticket = 0x00200000;
  gate = 0x00200004;
  uses = use_by first_uses;
  writes = λ task address. true;
  rule = writes_a_word;
  turns = turns_by 8 3;
  start = λ address. 0;
  result = byte_by first_result;
}

abbrev pub second_phase : ℕ → Phase
second_phase harts = record {
  text = example_text;
  size = 64;
  harts = harts;
  tasks = 2;
  draw_code = 0x00010050;
  door = 0x00010074;
  ticket = 0x00200008;
  gate = 0x0020000C;
  uses = use_by second_uses;
  writes = λ task address. true;
  rule = writes_a_word;
  turns = turns_by 6 1;
  start = byte_by first_result;
  result = byte_by second_result;
}

abbrev pub example : ℕ → ℕ → Phase
example harts zero = first_phase harts
example harts (suc k) = second_phase harts

-- it meets every premise, with any number of harts from 1 to 8
abbrev pub ExampleIsProgram : Type 0
ExampleIsProgram =
    (harts : ℕ) → 1 ≤ harts → harts ≤ 8
    → Program (example harts) 1 × (Opens (example harts 0) 0x00010000 example_data × ((k : ℕ) → TaskWrites (example harts k)))

-- and so on every list of turns
abbrev pub ExampleResult : Type 0
ExampleResult =
    (harts : ℕ) (turns : List ℕ) → 1 ≤ harts → harts ≤ 8
    → let end = run (opened 0x00010000 example_text example_data harts) turns in all_finished end ≡ true
    → (word_at end.text end.memory 0x00200018 ≡ 16) × (word_at end.text end.memory 0x0020001C ≡ 15)

-- How many rounds are enough for it. The tasks of the first phase take 11 turns each, with their draws, and those of the second 9; each
-- hart's ways and waits take 10 and 8.
abbrev pub example_rounds : ℕ → ℕ
example_rounds harts = 2 * 11 + 2 * 9 + 18 * harts

abbrev pub ExampleEnds : Type 0
ExampleEnds =
    (harts : ℕ) (turns : List ℕ) (rounds : List (List ℕ)) → 1 ≤ harts → harts ≤ 8
    → (enough_rounds (example harts) 1 ≡ example_rounds harts)
    × (are_rounds harts rounds ≡ true → example_rounds harts ≤ length rounds
    → all_finished (run (opened 0x00010000 example_text example_data harts) (turns ++ concat rounds)) ≡ true)
