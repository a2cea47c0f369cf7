-- Phases one after the other: a program by which harts share the tasks of each phase, and the state at which it opens.
-- This project's own. Data begins with two words for each phase: at 0x00200000 + 8 * k the ticket word of phase k, and four
-- bytes on its gate word. The last phase has no gate: its gate word stays 0.
use Rattle.std.specs.Prelude.{◌≡◌, ◌<◌, ◌≤◌, ◌⊎◌, ℕ, suc, ◌+◌, ◌*◌, List, [], ◌∷◌, length}
use Rattle.std.specs.Int.{w32, from_le_bytes}
use Rattle.memory.specs.Access.{data_start, byte_at, AreBytes, word_at}
use Rattle.hart_core.specs.HartState.{HartState, opening_hart}
use Rattle.multi_hart.specs.Run.{State, opened}
use Rattle.multi_hart_laws.specs.Uses.{Use, Control, Fixed, Owned, Private, Shared, Setup}
use Rattle.work_sharing.specs.Phases.{Phase, Stands, IsControl, Code, HasGate, HasEnd}
use Rattle.work_sharing.specs.Solo.{SoonDone, TaskDone}
use Rattle.work_sharing.specs.Turns.{ticket_word}

-- a byte of a ticket word or of a gate word of the phases 0 to `last`
abbrev pub IsControlByte : ℕ → ℕ → Type 0
IsControlByte last address = (data_start ≤ address) × (address < data_start + 8 * suc last)

-- no task's byte, and no hart's own
abbrev pub OfNoTask : Use → Type 0
OfNoTask Control = Unit {0}
OfNoTask Fixed = Unit {0}
OfNoTask (Owned task) = ⊥
OfNoTask (Private hart) = ⊥

-- the number that the phase finds in the word at an address
abbrev pub start_word : Phase → ℕ → ℕ
start_word phase address =
    from_le_bytes w32 (phase.start address ∷ phase.start (address + 1) ∷ phase.start (address + 2) ∷ phase.start (address + 3) ∷ [])

-- a word that no task of the phase writes, and that is 0
pub record Fresh (phase : Phase) (address : ℕ) : Type 0 where
  pub first : phase.uses address ≡ Fixed
  pub second : phase.uses (address + 1) ≡ Fixed
  pub third : phase.uses (address + 2) ≡ Fixed
  pub fourth : phase.uses (address + 3) ≡ Fixed
  pub zero : start_word phase address ≡ 0

-- what a phase finds at the address is what the earlier one left there: a byte that it kept, or a task's result
abbrev pub FoundBy : Phase → Phase → ℕ → Type 0
FoundBy earlier later address =
    ((earlier.uses address ≡ Fixed) × (later.start address ≡ earlier.start address))
    ⊎ ((task : ℕ) × (earlier.uses address ≡ Owned task) × (task < earlier.tasks) × (later.start address ≡ earlier.result address))

-- the way from one phase to the next: code after the earlier one's gate, which touches no memory, sets up the later one's registers
pub record Link (earlier later : Phase) : Type 0 where
  pub code : Code earlier
  pub waits : HasGate earlier
  pub text : earlier.text ≡ later.text
  pub size : earlier.size ≡ later.size
  pub harts : earlier.harts ≡ later.harts
  pub gate : IsControl later earlier.gate
  pub before : earlier.gate + 4 ≤ later.ticket
  pub setup : (number : ℕ) (hart : HartState) (memory : List ℕ) → Stands earlier number hart (earlier.door + 12) → length memory ≡ later.size
      → AreBytes memory → SoonDone later Setup number (suc (later.turns Setup)) hart memory

pub record Follows (earlier later : Phase) : Type 0 where
  pub link : Link earlier later
  pub tickets : Fresh earlier later.ticket
  pub gates : Fresh earlier later.gate
  pub found : (address : ℕ) → Shared (later.uses address) → FoundBy earlier later address

-- the phases 0 to `last`, of which the last one has ECALL for a gate
pub record Program (phases : ℕ → Phase) (last : ℕ) : Type 0 where
  pub code : (k : ℕ) → k ≤ last → Code (phases k)
  pub tickets : (k : ℕ) → k ≤ last → (phases k).ticket ≡ ticket_word k
  pub control : (k address : ℕ) → k ≤ last → IsControlByte last address → OfNoTask ((phases k).uses address)
  pub tasks : (k : ℕ) → k ≤ last → TaskDone (phases k)
  pub follows : (k : ℕ) → k < last → Follows (phases k) (phases (suc k))
  pub leave : HasEnd (phases last)
  pub some : (k : ℕ) → k ≤ last → 0 < (phases k).harts

-- the start: every hart at the entry, from which code that touches no memory leads to the first phase's draw
abbrev pub start : Phase → ℕ → List ℕ → State
start phase entry memory = opened entry phase.text memory phase.harts

pub record Opens (phase : Phase) (entry : ℕ) (memory : List ℕ) : Type 0 where
  pub size : length memory ≡ phase.size
  pub bytes : AreBytes memory
  pub setup : (number : ℕ) → number < phase.harts → SoonDone phase Setup number (suc (phase.turns Setup)) (opening_hart entry phase.harts number) memory
  pub tickets : word_at phase.text memory phase.ticket ≡ 0
  pub gates : word_at phase.text memory phase.gate ≡ 0
  pub found : (address : ℕ) → Shared (phase.uses address) → byte_at phase.text memory address ≡ phase.start address
