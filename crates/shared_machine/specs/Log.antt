-- A log of turns tells what happened: the state that it leads to, how many turns a hart made, and the sum of what they
-- came to. Count and sum together name a hart's outcomes in order, since only the last turn that changed anything isn't a step.
-- This project's own.
use Rattle.std.specs.Prelude.{◌≡◌, ℕ, ◌+◌, ◌-◌, ◌==◌, if◌then◌else◌, List, [], ◌∷◌, ◌++◌, length, take, replicate}
use Rattle.rv_insn.specs.declared.outcomes.Outcome.{Outcome}
use Rattle.rv_insn.specs.declared.outcomes.Outcome.TheVariants.{Stepped, Finished, Trapped, Idle}
use Rattle.rv_insn.specs.Trap.{trap_number}
use Rattle.multi_hart.specs.Run.{State, turn, outcome, run}
use Rattle.multi_hart.specs.TurnsInARow.{StepsOn}
use Rattle.turn_log.specs.TurnLog.{LogState, IsLog, count_of}
use Rattle.loader.specs.Image.{ImageContents}
use Rattle.loader.specs.Loading.{machine_of}

-- the code of an outcome
abbrev pub code_of : Outcome → ℕ
code_of Stepped = 16
code_of Finished = 1
code_of (Trapped trap) = 1 + trap_number trap
code_of Idle = 0

-- the sum of the codes of a hart's turns, from a state on
abbrev pub tally_from : State → List ℕ → ℕ → ℕ
tally_from state [] hart = 0
tally_from state (one ∷ turns) hart = (if one == hart then code_of (outcome state one) else 0) + tally_from (turn state one) turns hart

-- the state that the turns lead to, from the start of an image with this many harts
abbrev pub state_after : ImageContents → ℕ → List ℕ → State
state_after image harts turns = run (machine_of image harts) turns

-- the sum of the codes of all of a hart's turns
abbrev pub tally : ImageContents → ℕ → List ℕ → ℕ → ℕ
tally image harts turns hart = tally_from (machine_of image harts) turns hart

-- a log begins with turns that were made before
abbrev pub BeginsWith : List ℕ → List ℕ → Type 0
BeginsWith turns first = take (length first) turns ≡ first

-- a log with this many turns more of one hart
abbrev pub with_turns : LogState → ℕ → ℕ → LogState
with_turns log hart made = record { harts = log.harts; turns = log.turns ++ replicate made hart }

-- a log with one turn more
abbrev pub with_turn : LogState → ℕ → LogState
with_turn log hart = with_turns log hart 1

-- the state after this many turns more of one hart
abbrev pub after_turns : State → ℕ → ℕ → State
after_turns state hart made = run state (replicate made hart)

-- the sum of the codes of this many turns of one hart
abbrev pub tally_more : State → ℕ → ℕ → ℕ
tally_more state hart made = tally_from state (replicate made hart) hart

-- A hart that had made this many turns, with this tally, made `made` more, one after the other: all but the last stepped, and
-- the last came to this. There is a log that says so, of this image and this many harts, which begins with the turns resumed.
pub record CameSo (image : ImageContents) (harts : ℕ) (resumed : List ℕ) (hart number tallied made : ℕ) (last : Outcome) : Type 0 where
  pub turns : List ℕ
  pub log : IsLog (record { harts = harts; turns = turns })
  pub begins : BeginsWith turns resumed
  pub count : count_of turns hart ≡ number
  pub sum : tally image harts turns hart ≡ tallied
  pub steps : StepsOn (state_after image harts turns) hart (made - 1)
  pub outcome : last ≡ outcome (after_turns (state_after image harts turns) hart (made - 1)) hart

-- the same of one turn
abbrev pub Came : ImageContents → ℕ → List ℕ → ℕ → ℕ → ℕ → Outcome → Type 0
Came image harts resumed hart number tallied came = CameSo image harts resumed hart number tallied 1 came

-- no more turns are made under one lock
abbrev pub most_batch : ℕ
most_batch = 4096
