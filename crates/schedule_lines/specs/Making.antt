-- How the loops of a stage come about: some are over whole variables, splits make two of one, and others take
-- places anew or are marked. What is kept of a stage follows from this by induction.
-- This project's own.
use Rattle.std.specs.Prelude.{◌≡◌, ◌≤◌, ℕ, ◌+◌, Bool, false, not, ◌&&◌, if◌then◌else◌, List, [], ◌∷◌, ◌++◌, length, map, None, is_some}
use Rattle.std.specs.Str.{bytes_eq}
use Rattle.schedule_lines.specs.declared.lines.SplitLine.{SplitLine}
use Rattle.schedule_lines.specs.declared.stages.Loop.{Loop}
use Rattle.schedule_lines.specs.declared.stages.Mark.TheVariants as marks
use Rattle.schedule_lines.specs.declared.stages.Split.{Split}
use Rattle.schedule_lines.specs.declared.stages.Stage.{Stage}
use Rattle.schedule_lines.specs.Directives.{is_shift, parts, reductions, is_marked}

-- what is added up over loops
abbrev pub total : (Loop → ℕ) → List Loop → ℕ
total value [] = 0
total value (first ∷ others) = value first + total value others

-- 1 for a loop with this name
abbrev pub has_name : List ℕ → Loop → ℕ
has_name name stage_loop = if bytes_eq stage_loop.name name then 1 else 0

-- 1 for an unrolled loop that is the inner one of no split
abbrev pub is_stray : Loop → ℕ
is_stray stage_loop = if is_marked marks.Unrolled stage_loop && not (is_some stage_loop.inner_of) then 1 else 0

-- No two loops have one name.
abbrev pub Differ : List Loop → Type 0
Differ loops = (name : List ℕ) → total (has_name name) loops ≤ 1

-- a loop without its name and its mark
abbrev pub bare : Loop → Loop
bare stage_loop = record { id = stage_loop.id; name = []; variable = stage_loop.variable; inner_of = stage_loop.inner_of; is_from_shift = stage_loop.is_from_shift; marked = None }

-- A factor is 1 to 64, and loops of an update aren't shifted.
pub record IsSplit (is_update : Bool) (line : SplitLine) : Type 0 where
  pub some : 1 ≤ line.factor
  pub few : line.factor ≤ 64
  pub unshifted : (is_update && is_shift line.tail) ≡ false

-- Both have the same loops, in any order: whatever is added up over them is the same.
abbrev pub SameLoops : List Loop → List Loop → Type 0
SameLoops stage_loops others = (value : Loop → ℕ) → total value stage_loops ≡ total value others

-- Loops and splits that lines make of the first loops.
pub data IsMade (is_update : Bool) (start : List Loop) : List Loop → List Split → Type 0 where
  -- no line yet
  Begun : IsMade is_update start start []
  -- a loop is split: the inner loop is in its place, the outer one just outside it
  Parted : (before : List Loop) (stage_loop : Loop) (after : List Loop) (splits : List Split) (line : SplitLine)
      → IsMade is_update start (before ++ stage_loop ∷ after) splits
      → IsSplit is_update line
      → IsMade is_update start (before ++ (parts stage_loop (length splits) line ++ after)) (splits ++ record { of = stage_loop.id; factor = line.factor; tail = line.tail }
      ∷ [])
  -- names and marks change
  Marked : (loops new : List Loop) (splits : List Split)
      → IsMade is_update start loops splits
      → map bare new ≡ map bare loops
      → IsMade is_update start new splits
  -- loops change places, and those over reduction variables keep their order
  Moved : (loops new : List Loop) (splits : List Split)
      → IsMade is_update start loops splits
      → SameLoops new loops
      → reductions new ≡ reductions loops
      → IsMade is_update start new splits

-- A stage that lines make of its first loops: at most 5 loops with names that differ, of which each unrolled one is the inner
-- loop of a split.
pub record IsStage (is_update : Bool) (start : List Loop) (stage : Stage) : Type 0 where
  pub made : IsMade is_update start stage.loops stage.splits
  pub names : Differ stage.loops
  pub few : length stage.loops ≤ 5
  pub unrolled : total is_stray stage.loops ≡ 0
