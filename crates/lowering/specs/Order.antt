-- Phases one after the other, the tasks of each in any order.
-- This project's own.
use Rattle.std.specs.Prelude.{◌≡◌, ℕ, Bool, false, true, List, [], ◌∷◌}
use Rattle.halide_pipeline.specs.Pixel.{Planes}
use Rattle.schedule_loops.specs.Visits.{IsOrder}
use Rattle.loop_ir.specs.Buffers.{Points}
use Rattle.lowering.specs.Phases.{DoesPhase, Done}

-- A phase as its tasks: how many there are, and what each does to the Funcs' buffers.
pub record Tasks : Type 0 where
  pub count : ℕ
  pub run : ℕ → Planes → Planes

-- The phases of a list are done, each with all its tasks in some order of its own. Private buffers may come to hold anything before each task.
pub data DoneInOrder (is_private : ℕ → Bool) : List Tasks → Planes → Planes → Type 0 where
  Nothing : (funcs : Planes) → DoneInOrder is_private [] funcs funcs
  Phase : (first : Tasks) (others : List Tasks) (order : List ℕ) (funcs between after : Planes) → IsOrder first.count order
      → Done is_private first.run order funcs between → DoneInOrder is_private others between after → DoneInOrder is_private (first ∷ others) funcs after

-- Planes agree at the points that are there, private ones apart.
abbrev pub AgreeThere : Points → (ℕ → Bool) → Planes → Planes → Type 0
AgreeThere points is_private one other = (func_index x y : ℕ) → is_private func_index ≡ false → points func_index x y ≡ true → one func_index x y ≡ other func_index x y

-- Each phase of a list does its part: it begins with what the one before it leaves.
pub data DoPhases (points : Points) (is_private : ℕ → Bool) : List Tasks → Planes → Planes → Type 0 where
  None_left : (start : Planes) → DoPhases points is_private [] start start
  Same : (phases : List Tasks) (one other result : Planes) → AgreeThere points is_private one other
      → DoPhases points is_private phases other result → DoPhases points is_private phases one result
  One_more : (first : Tasks) (others : List Tasks) (func_index : ℕ) (owns : ℕ → ℕ → ℕ
      → Bool) (start between result : Planes)
      → DoesPhase points is_private func_index start between first.count owns first.run
      → DoPhases points is_private others between result → DoPhases points is_private (first ∷ others) start result

-- From buffers that hold the start of the first phase, the phases leave the result of the last one at each point that is there.
abbrev pub PhasesInOrder : Type 0
PhasesInOrder = (points : Points) (is_private : ℕ → Bool) (phases : List Tasks) (start result : Planes) → DoPhases points is_private phases start result
    → (funcs after : Planes) → AgreeThere points is_private funcs start → DoneInOrder is_private phases funcs after → AgreeThere points is_private after result
