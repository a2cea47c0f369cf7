-- What is known of turns that may race. This project's own.
use Rattle.std.specs.Prelude.{◌≡◌, ◌≢◌, ℕ, ◌≤◌, ◌<◌, List, length, replicate, slice_get, slice_set, Some, None}
use Rattle.hart_core.specs.HartState.{HartState}
use Rattle.hart_core.specs.Turn.{next_of}
use Rattle.multi_hart.specs.Run.{State, hart_at, reads, run, turn, writes}
use Rattle.turn_accesses.specs.Accesses.{Covers}
use Rattle.turn_accesses.specs.declared.spans.Span.{Span}
use Rattle.race_reports.specs.Races.{race_in, shared_by}

-- the span covers what the hart's next turn touches
abbrev pub IsSpan : State → HartState → Span → Type 0
IsSpan state one span = Covers span (reads (next_of state.text (length state.memory) one) one) (writes (next_of state.text (length state.memory) one) one)

-- a span for each hart
pub record AreSpans (state : State) (spans : List Span) : Type 0 where
  pub as_many : length spans ≡ length state.harts
  pub each : (number : ℕ) (span : Span) → slice_get spans number ≡ Some span → IsSpan state (hart_at state number) span

-- neither of two harts' next turns writes what the other one's touches
abbrev pub AreApart : List ℕ → State → HartState → HartState → Type 0
AreApart words state one other =
    (shared_by words state.text (length state.memory) one other ≡ None) × (shared_by words state.text (length state.memory) other one ≡ None)

-- that is so of a hart and of all harts from a number on
abbrev pub IsApartFrom : List ℕ → State → ℕ → ℕ → Type 0
IsApartFrom words state hart number =
    (other : ℕ) → number ≤ other → other < length state.harts → hart ≢ other → AreApart words state (hart_at state hart) (hart_at state other)

-- turns of a hart without a race in a state before them, or between two of them
abbrev pub AreClear : List ℕ → State → ℕ → ℕ → Type 0
AreClear words state hart made = (k : ℕ) → k < made → race_in words (run state (replicate k hart)) ≡ None

-- the state is the one after a turn of the hart, before which nothing raced, and the spans but the hart's own are known from there
pub record JustTurned (words : List ℕ) (state : State) (spans : List Span) (hart : ℕ) : Type 0 where
  pub before : State
  pub there : hart < length before.harts
  pub clear : race_in words before ≡ None
  pub turned : state ≡ turn before hart
  pub were : List Span
  pub spans_were : AreSpans before were
  pub others : (span : Span) → slice_set were hart span ≡ slice_set spans hart span
