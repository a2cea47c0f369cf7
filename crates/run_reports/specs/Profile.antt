-- Where the turns of a list begin: how many of a hart's turns it makes while it runs, how many of these at each address, and how many when
-- it doesn't run any more. This project's own.
use Rattle.std.specs.Prelude.{◌≡◌, ℕ, ◌+◌, ◌*◌, ◌<◌, ◌==◌, ◌&&◌, Bool, true, false, not, if◌then◌else◌, List, [], ◌∷◌, length, slice_get, slice_index, Some}
use Rattle.memory.specs.Access.{text_start}
use Rattle.hart_core.specs.declared.harts.Status.{Status}
use Rattle.hart_core.specs.declared.harts.Status.TheVariants.{Running, Finished, Trapped}
use Rattle.multi_hart.specs.Run.{State, hart_at, turn}
use Rattle.turn_log.specs.TurnLog.{count_of}
use Rattle.run_reports.specs.declared.profiles.HartProfile.{HartProfile}

-- how many of the turns pass a test, which is given the state before the turn and the turn's hart
abbrev pub turns_where : (State → ℕ → Bool) → State → List ℕ → ℕ
turns_where test state [] = 0
turns_where test state (hart ∷ turns) = (if test state hart then 1 else 0) + turns_where test (turn state hart) turns

abbrev pub is_running : Status → Bool
is_running Running = true
is_running Finished = false
is_running (Trapped trap) = false

abbrev pub runs : State → ℕ → Bool
runs state hart = is_running (hart_at state hart).status

-- a turn of this hart, which runs; the same at an address; and one of this hart, which doesn't run
abbrev pub is_made : ℕ → State → ℕ → Bool
is_made hart state other = other == hart && runs state hart

abbrev pub is_made_at : ℕ → ℕ → State → ℕ → Bool
is_made_at hart address state other = is_made hart state other && (hart_at state hart).pc == address

abbrev pub is_idle : ℕ → State → ℕ → Bool
is_idle hart state other = other == hart && not (runs state hart)

-- how many such turns there are, from a state on
abbrev pub turns_made : ℕ → State → List ℕ → ℕ
turns_made hart begin turns = turns_where (is_made hart) begin turns

abbrev pub turns_at : ℕ → ℕ → State → List ℕ → ℕ
turns_at hart address begin turns = turns_where (is_made_at hart address) begin turns

abbrev pub idle_turns : ℕ → State → List ℕ → ℕ
idle_turns hart begin turns = turns_where (is_idle hart) begin turns

-- Each turn of a hart is one that it makes while it runs, or an idle one.
abbrev pub TurnsAreMadeOrIdle : Type 0
TurnsAreMadeOrIdle = (hart : ℕ) (begin : State) (turns : List ℕ) → turns_made hart begin turns + idle_turns hart begin turns ≡ count_of turns hart

-- what is counted of a hart's turns, at each of this many words of text
pub record IsHartProfile (words hart : ℕ) (begin : State) (turns : List ℕ) (profile : HartProfile) : Type 0 where
  pub as_many : length profile.counts.items ≡ words
  pub each : (place : ℕ) → place < words → slice_index profile.counts.items place ≡ turns_at hart (text_start + 4 * place) begin turns
  pub made : profile.made ≡ turns_made hart begin turns
  pub idle : profile.idle ≡ idle_turns hart begin turns

-- the same of all harts, in order
pub record IsProfile (begin : State) (turns : List ℕ) (profiles : List HartProfile) : Type 0 where
  pub as_many : length profiles ≡ length begin.harts
  pub each : (hart : ℕ) (one : HartProfile) → slice_get profiles hart ≡ Some one → IsHartProfile (length begin.text) hart begin turns one
