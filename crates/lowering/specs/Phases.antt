-- What the tasks of a phase leave in the Funcs' buffers.
--
-- A phase works on one Func, from planes that the buffers hold at first, the start, to planes that they hold at its end, the result. Its
-- tasks divide the points of its Func among them; what a task leaves depends on points of other Funcs, and of its own Func on those that it
-- owns. Nothing is said here of which points it writes or loads on the way. Funcs whose
-- buffers each hart has for itself are private: they hold anything before a task, and what they hold after it doesn't count.
-- This project's own.
use Rattle.std.specs.Prelude.{◌≡◌, ◌<◌, ℕ, Bool, true, false, List, [], ◌∷◌}
use Rattle.halide_pipeline.specs.Pixel.{Planes}
use Rattle.schedule_loops.specs.Visits.{IsOrder}
use Rattle.loop_ir.specs.Buffers.{Points}

-- The points of a Func that pass a test hold these planes, and so do all points of other Funcs, private ones apart.
abbrev pub Hold : Points → (ℕ → Bool) → ℕ → (ℕ → ℕ → Bool) → Planes → Planes → Type 0
Hold points is_private func_index passes wanted funcs =
    (place x y : ℕ) → is_private place ≡ false → points place x y ≡ true → (place ≡ func_index → passes x y ≡ true) → funcs place x y ≡ wanted place x y

-- From buffers that hold the start, at the points of the own Func that the task owns and at all points of others, it leaves the result at the
-- points that it owns, and all else as it was.
pub record DoesTask (points : Points) (is_private : ℕ → Bool) (func_index : ℕ) (start result : Planes) (owned : ℕ → ℕ → Bool) (task : Planes → Planes) : Type 0 where
  pub there : (x y : ℕ) → owned x y ≡ true → points func_index x y ≡ true
  pub does : (funcs : Planes) → Hold points is_private func_index owned start funcs → (x y : ℕ) → owned x y ≡ true → task funcs func_index x y ≡ result func_index x y
  pub keeps : (funcs : Planes) → Hold points is_private func_index owned start funcs
      → (place x y : ℕ) → is_private place ≡ false → (place ≡ func_index → owned x y ≡ false) → task funcs place x y ≡ funcs place x y

-- Each task of a phase does its part. No point is owned by two; one that none owns is in the result what it is in the start, and so are all
-- points of other Funcs.
pub record DoesPhase (points : Points) (is_private : ℕ → Bool) (func_index : ℕ) (start result : Planes) (count : ℕ) (owns : ℕ → ℕ → ℕ → Bool) (tasks : ℕ → Planes
    → Planes) : Type 0 where
  pub not_private : is_private func_index ≡ false
  pub each : (number : ℕ) → number < count → DoesTask points is_private func_index start result (owns number)
      (tasks number)
  pub one_owner : (x y first second : ℕ) → first < count → second < count → owns first x y ≡ true → owns second x y ≡ true → first ≡ second
  pub unowned : (x y : ℕ) → points func_index x y ≡ true → ((number : ℕ) → number < count → owns number x y ≡ false) → result func_index x y ≡ start func_index x y
  pub others : (place x y : ℕ) → (place ≡ func_index → ⊥) → result place x y ≡ start place x y

-- ---- tasks in any order

-- the tasks of a list, one after the other, where before each private buffers may come to hold anything
pub data Done (is_private : ℕ → Bool) (tasks : ℕ → Planes → Planes) : List ℕ → Planes → Planes → Type 0 where
  Nothing : (funcs : Planes) → Done is_private tasks [] funcs funcs
  Task : (first : ℕ) (others : List ℕ) (funcs before after : Planes)
      → ((func_index x y : ℕ) → is_private func_index ≡ false → before func_index x y ≡ funcs func_index x y)
      → Done is_private tasks others (tasks first before) after → Done is_private tasks (first ∷ others) funcs after

-- In whatever order the tasks are done, from buffers that hold the start the result is left at each point that is there.
abbrev pub TasksInAnyOrder : Type 0
TasksInAnyOrder = (points : Points) (is_private : ℕ → Bool) (func_index : ℕ) (start result : Planes) (count : ℕ) (owns : ℕ → ℕ → ℕ → Bool) (tasks : ℕ → Planes
    → Planes)
    → DoesPhase points is_private func_index start result count owns tasks
    → (order : List ℕ) → IsOrder count order
    → (funcs after : Planes) → ((place x y : ℕ) → is_private place ≡ false → points place x y ≡ true → funcs place x y ≡ start place x y)
    → Done is_private tasks order funcs after
    → (place x y : ℕ) → is_private place ≡ false → points place x y ≡ true → after place x y ≡ result place x y
