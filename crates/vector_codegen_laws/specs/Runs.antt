-- Which points one turn of a phase writes, where the stage is a vectorized pure definition: those of one run of its vectorized loop, and no others.
-- This project's own.
use Rattle.std.specs.Prelude.{◌≡◌, ◌<◌, ℕ, ◌+◌, ◌==◌, ◌&&◌, Bool, true, List}
use Rattle.std.specs.List.{list_any}
use Rattle.schedule_lines.specs.declared.stages.Stage.{Stage}
use Rattle.schedule.specs.declared.plans.FuncPlan.{FuncPlan}
use Rattle.schedule_loops.specs.declared.extents.Extents.{Extents}
use Rattle.schedule_loops.specs.Visits.{Values, counts, is_slice, Visit}
use Rattle.schedule_loops.specs.Runs.{AreIterations, is_vectorized_first, outside_innermost, run_of}
use Rattle.multi_hart.specs.Run.{is_in}

-- the place is a byte of a point that is visited
pub record IsByteOf (at : ℕ → ℕ → ℕ) (visits : List Visit) (place : ℕ) : Type 0 where
  pub x : ℕ
  pub y : ℕ
  pub byte : ℕ
  pub visited : list_any (is_slice x y) visits ≡ true
  pub small : byte < 4
  pub is : place ≡ at x y + byte

-- The phase of the stage with this number of a Func writes the Func's points in runs: the stage is a pure definition, and its innermost loop is
-- vectorized.
abbrev pub writes_runs : FuncPlan → ℕ → Bool
writes_runs plan number = number == 0 && is_vectorized_first plan.pure.loops

-- Where points lie so, the addresses are those of all bytes of the points that the stage visits while its innermost loop takes all its values and
-- its other loops stay, and of no others.
pub record IsOneRun (at : ℕ → ℕ → ℕ) (extents : Extents) (stage : Stage) (written : List ℕ) : Type 0 where
  -- in which iterations the other loops are
  pub iterations : Values
  pub are : AreIterations (counts extents stage.splits) (outside_innermost stage.loops) iterations
  pub all : (x y byte : ℕ) → list_any (is_slice x y) (run_of extents stage iterations) ≡ true → byte < 4 → is_in (at x y + byte) written ≡ true
  pub no_other : (address : ℕ) → is_in address written ≡ true → IsByteOf at (run_of extents stage iterations) address
