-- What the places that one turn writes meet where points of a Func at root are written in runs: they are all bytes of all points of one run, and
-- no others.
-- This project's own.
use Rattle.std.specs.Prelude.{◌≡◌, ◌<◌, ℕ, ◌+◌, nat_le, nat_lt, Bool, true, ◌&&◌, if◌then◌else◌, List, Option}
use Rattle.std.specs.List.{Contains, list_all, list_any}
use Rattle.halide_pipeline.specs.declared.expressions.Source.TheVariants as sources
use Rattle.halide_pipeline.specs.Pipelines.{Pipeline}
use Rattle.schedule.specs.declared.schedules.Schedule.{Schedule}
use Rattle.schedule_loops.specs.Visits.{Visit, is_slice}
use Rattle.bounds.specs.declared.boxes.SourceBox.{SourceBox}
use Rattle.loop_ir.specs.Counters.{Values}
use Rattle.multi_hart.specs.Run.{is_in}
use Rattle.vector_codegen_laws.specs.Points.{address_at}
use Rattle.vector_codegen_laws.specs.Uses.{Owners}
use Rattle.vector_codegen_laws.specs.Runs.{IsByteOf}

-- ---- as a test

-- all four bytes of the word at an address are among the places
abbrev pub has_word : List ℕ → ℕ → Bool
has_word places address = is_in address places && (is_in (address + 1) places && (is_in (address + 2) places && is_in (address + 3) places))

-- the place is a byte of one of the points, which lie so
abbrev pub is_byte_of : (ℕ → ℕ → ℕ) → List Visit → ℕ → Bool
is_byte_of at visits place = list_any (λ visit. nat_le (at visit.x visit.y) place && nat_lt place (at visit.x visit.y + 4)) visits

abbrev pub is_run : (ℕ → ℕ → ℕ) → List ℕ → List Visit → Bool
is_run at places visits = list_all (λ visit. has_word places (at visit.x visit.y)) visits && list_all (is_byte_of at visits) places

module _ (pipeline : Pipeline) (schedule : Schedule) (boxes : List (Option SourceBox)) where
  -- The rule of a phase.
  abbrev pub rule_of : Owners → List ℕ → Bool
  rule_of owners places =
      if owners.in_runs then list_any (is_run (address_at pipeline schedule boxes 0 (sources.Func owners.func)) places) owners.runs else true

-- ---- what it says

-- The places are those of one of these runs.
pub record AreBytesOf (at : ℕ → ℕ → ℕ) (runs : List (List Visit)) (places : List ℕ) : Type 0 where
  pub visits : List Visit
  pub there : Contains runs visits
  pub all : (x y byte : ℕ) → list_any (is_slice x y) visits ≡ true → byte < 4 → is_in (at x y + byte) places ≡ true
  pub no_other : (place : ℕ) → is_in place places ≡ true → IsByteOf at visits place

abbrev pub RulesSayRuns : Type 0
RulesSayRuns = (pipeline : Pipeline) (schedule : Schedule) (boxes : List (Option SourceBox)) (owners : Owners) (places : List ℕ)
    → owners.in_runs ≡ true → rule_of pipeline schedule boxes owners places ≡ true
    → AreBytesOf (address_at pipeline schedule boxes 0 (sources.Func owners.func)) owners.runs places

-- ---- which run counters name

-- one of the list's, with the same points
pub record IsNamed (owners : Owners) (values : Values) : Type 0 where
  pub visits : List Visit
  pub there : Contains owners.runs visits
  pub is : (x y : ℕ) → owners.run x y values ≡ list_any (is_slice x y) visits

-- Where counters name a run that has a point, it is one of the list's.
abbrev pub RunsAreNamed : Owners → Type 0
RunsAreNamed owners = (values : Values) (x y : ℕ) → owners.run x y values ≡ true → IsNamed owners values
