-- Runs whose turns are drawn: a number says which of the harts that may go on makes the next ones. The numbers are those of SplitMix64 from
-- the seed on, as `mix_u64` has them (Steele, Lea and Flood, "Fast splittable pseudorandom number generators", 2014; with the constants of
-- Vigna's splitmix64.c). All else is this project's own.
use Rattle.std.specs.Prelude.{◌≡◌, ◌<◌, ◌≤◌, ℕ, zero, suc, ◌+◌, ◌*◌, ◌-◌, ◌%◌, ◌&&◌, min, nat_lt, Bool, true, false, if◌then◌else◌, List, [], ◌∷◌, ◌++◌, length}
use Rattle.std.specs.Prelude.{replicate, slice_index}
use Rattle.rand_xoshiro.specs.SplitMix64.{mix_u64}
use Rattle.hart_core.specs.declared.harts.Status.{Status}
use Rattle.hart_core.specs.declared.harts.Status.TheVariants.{Running, Finished, Trapped}
use Rattle.multi_hart.specs.Run.{State, hart_at, run, turn}
use Rattle.turn_log.specs.TurnLog.{count_of, most_turns}
use Rattle.drawn_runs.specs.declared.drawing.DrawRules.{DrawRules}

-- what is drawn so far: the machine after it, all turns, and the state of the generator
pub record Drawing : Type 0 where
  pub machine : State
  pub turns : List ℕ
  pub generator : ℕ

abbrev pub is_running : Status → Bool
is_running Running = true
is_running Finished = false
is_running (Trapped trap) = false

-- how many turns a hart has at most in the end that had those before: so many more, and no more than any hart may have
abbrev pub bound_of : ℕ → List ℕ → ℕ → ℕ
bound_of limit before hart = min (count_of before hart + limit) most_turns

-- ---- which hart

-- a hart is ready that is running and has fewer turns than its bound
abbrev pub is_ready : (ℕ → ℕ) → State → List ℕ → ℕ → Bool
is_ready bound machine turns hart = is_running (hart_at machine hart).status && nat_lt (count_of turns hart) (bound hart)

-- those numbered below this many that are ready, in order of their numbers
abbrev pub ready_below : (ℕ → ℕ) → State → List ℕ → ℕ → List ℕ
ready_below bound machine turns zero = []
ready_below bound machine turns (suc hart) =
    ready_below bound machine turns hart ++ (if is_ready bound machine turns hart then hart ∷ [] else [])

abbrev pub ready : (ℕ → ℕ) → Drawing → List ℕ
ready bound drawing = ready_below bound drawing.machine drawing.turns (length drawing.machine.harts)

-- one of the harts, by the next number modulo how many they are
abbrev pub chosen : List ℕ → ℕ → ℕ
chosen harts generator = slice_index harts ((mix_u64 generator).0 % length harts)

-- ---- how many turns it makes

-- as many as it makes in a row while it is running, this many at most
abbrev pub stretch : State → ℕ → ℕ → ℕ
stretch machine hart zero = 0
stretch machine hart (suc most) = if is_running (hart_at machine hart).status then suc (stretch (turn machine hart) hart most) else 0

-- up to this many, and up to its bound
abbrev pub due : ℕ → (ℕ → ℕ) → Drawing → ℕ → ℕ
due every bound drawing hart = stretch drawing.machine hart (min every (bound hart - count_of drawing.turns hart))

-- ---- draws, one after the other

-- this many turns of a hart, for which one number was drawn
abbrev pub with_stretch : Drawing → ℕ → ℕ → Drawing
with_stretch drawing hart made = record {
  machine = run drawing.machine (replicate made hart);
  turns = drawing.turns ++ replicate made hart;
  generator = (mix_u64 drawing.generator).1;
}

abbrev pub with_draw_of : ℕ → (ℕ → ℕ) → Drawing → ℕ → Drawing
with_draw_of every bound drawing hart = with_stretch drawing hart (due every bound drawing hart)

-- how drawing goes on where these are ready, and that it ends where none is
abbrev pub on_among : (Drawing → Drawing) → ℕ → (ℕ → ℕ) → Drawing → List ℕ → Drawing
on_among onward every bound drawing [] = drawing
on_among onward every bound drawing (first ∷ others) =
    onward (with_draw_of every bound drawing (chosen (first ∷ others) drawing.generator))

-- what this many draws come to
unfoldable pub drawn : ℕ → (ℕ → ℕ) → ℕ → Drawing → Drawing
drawn every bound zero drawing = drawing
drawn every bound (suc draws) drawing = on_among (drawn every bound draws) every bound drawing (ready bound drawing)

-- All draws of a run that goes on from a machine that made these turns. Each but the last one adds a turn, and no log has more than
-- 8 * 2^40, so that more draws would add nothing.
unfoldable pub drawn_run : DrawRules → State → List ℕ → Drawing
drawn_run rules machine turns =
    drawn rules.every (bound_of rules.limit turns) (8 * most_turns + 1) (record { machine = machine; turns = turns; generator = rules.seed })

-- ---- what holds of a run, whichever numbers are drawn

-- Turns are made after others: the machine is as they leave it, no hart has made more than the limit, and one with fewer turns than its bound
-- doesn't run at the end.
pub record RunsOut (limit : ℕ) (old : State) (before : List ℕ) (new : State) (turns : List ℕ) : Type 0 where
  pub made : List ℕ
  pub are_after : turns ≡ before ++ made
  pub leave : new ≡ run old made
  pub few : (hart : ℕ) → count_of turns hart ≤ count_of before hart + limit
  pub end : (hart : ℕ) → hart < length old.harts → count_of turns hart < bound_of limit before hart → is_running (hart_at new hart).status ≡ false
