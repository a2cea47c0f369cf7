-- The run of one hart alone, told forwards from where it begins: what each of its turns may touch, and what it has come to after so
-- many turns. Nothing of other harts enters here. This project's own.
use Rattle.std.specs.Prelude.{◌≡◌, ◌⊎◌, ℕ, zero, suc, ◌||◌, Bool, true, false, List, Some}
use Rattle.rv_insn.specs.declared.instructions.Insn.{Insn}
use Rattle.multi_hart.specs.Decoding.{decoded}
use Rattle.memory.specs.Access.{fetched}
use Rattle.hart_core.specs.HartState.{HartState}
use Rattle.hart_core.specs.Turn.{Does, next_of, step}
use Rattle.multi_hart.specs.Run.{is_in, reads, writes, Within}
use Rattle.multi_hart_laws.specs.Uses.{Use, Owned, Job, MayRead, MayWrite}

-- where a hart runs alone: the text, how many data bytes there are, what each byte is for, what the places are to meet that one
-- turn of a task writes, the job, and the hart's number
pub record World : Type 0 where
  pub text : List ℕ
  pub size : ℕ
  pub uses : ℕ → Use
  pub rule : ℕ → List ℕ → Bool
  pub job : Job
  pub hart : ℕ

-- a word is in the text at the address, and means the instruction
pub record Says (text : List ℕ) (address : ℕ) (insn : Insn) : Type 0 where
  pub word : ℕ
  pub fetched : fetched text address ≡ Some word
  pub decoded : decoded word ≡ Some insn

-- what a turn writes keeps the rule, if it writes a byte that a task owns
abbrev pub Keeps : World → List ℕ → Type 0
Keeps world places = (address task : ℕ) → is_in address places ≡ true → world.uses address ≡ Owned task → world.rule task places ≡ true

-- the hart's next turn does an instruction, makes no trap, touches nothing but what the job may, and keeps the rule
pub record Quiet (world : World) (hart : HartState) : Type 0 where
  pub insn : Insn
  pub does : next_of world.text world.size hart ≡ Does insn
  pub may_read : Within (λ address. MayRead world.job world.hart (world.uses address)) (reads (next_of world.text world.size hart) hart)
  pub may_write : Within (λ address. MayWrite world.job world.hart (world.uses address)) (writes (next_of world.text world.size hart) hart)
  pub keeps : Keeps world (writes (next_of world.text world.size hart) hart)

-- after this many quiet turns of the hart alone, what is wanted holds
abbrev pub Soon : World → (HartState → List ℕ → Type 0) → ℕ → HartState → List ℕ → Type 0
Soon world wanted zero hart memory = wanted hart memory
Soon world wanted (suc turns) hart memory =
    Quiet world hart × Soon world wanted turns (step world.text memory hart).hart (step world.text memory hart).memory

-- the byte is written in one of the next turns of the hart alone
abbrev pub Covers : List ℕ → ℕ → ℕ → HartState → List ℕ → ℕ → Type 0
Covers text size zero hart memory address = ⊥
Covers text size (suc turns) hart memory address =
    (is_in address (writes (next_of text size hart) hart) ≡ true)
    ⊎ Covers text size turns (step text memory hart).hart (step text memory hart).memory address

-- the byte is read or written in one of the next turns of the hart alone
abbrev pub touches : List ℕ → ℕ → ℕ → HartState → List ℕ → ℕ → Bool
touches text size zero hart memory address = false
touches text size (suc turns) hart memory address =
    is_in address (reads (next_of text size hart) hart) || is_in address (writes (next_of text size hart) hart)
    || touches text size turns (step text memory hart).hart (step text memory hart).memory address
