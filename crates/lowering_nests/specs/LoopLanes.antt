-- When the lanes of vectorized loops around a body may be done at once.
--
-- Where the schedule marks a loop so, the loop is the innermost one of its stage.
-- This project's own.
use Rattle.std.specs.Prelude.{◌≤◌, ◌≡◌, ◌<◌, ◌^◌, ◌++◌, ℕ, true, false, List, [], ◌∷◌}
use Rattle.std.specs.List.{AllByRecursion}
use Rattle.halide_pipeline.specs.Pixel.{Reads}
use Rattle.schedule_lines.specs.declared.stages.Loop.{Loop}
use Rattle.schedule_lines.specs.declared.stages.Split.{Split}
use Rattle.schedule_loops.specs.declared.extents.Extents.{Extents}
use Rattle.schedule_loops.specs.Visits as loops
use Rattle.schedule_loops.specs.Reach.{wholes}
use Rattle.schedule_loops.specs.Runs.{AreIterations, is_vectorized_loop}
use Rattle.loop_ir.specs.declared.expressions.Counter.{Counter}
use Rattle.loop_ir.specs.declared.statements.Stmt.{Stmt}
use Rattle.loop_ir.specs.Counters.{Values, with}
use Rattle.loop_ir.specs.LoopLanes.{loop_lanes, may_be_at_once, is_lane_count, everywhere, all_points, all_but}
use Rattle.loop_ir.specs.Soundness.{is_sound}
use Rattle.lowering_nests.specs.Nests.{loops_of, put_loops}

abbrev pub AllAreSmall : Values → Type 0
AllAreSmall values = (counter : Counter) → values counter < 2 ^ 25

-- No counter is lower in the second than in the first.
abbrev pub NeverFall : Values → Values → Type 0
NeverFall now next = (counter : Counter) → now counter ≤ next counter

-- While counters are small and none falls, no value of a split loop falls.
abbrev pub StepsUp : Stmt → Type 0
StepsUp statement =
    (reads : Reads) (now next : Values) → AllAreSmall now → AllAreSmall next → NeverFall now next → (loop_lanes reads statement).steps_up now next ≡ true

-- It stores once at most, no value of a split loop falls, it has no vectorized loop, and touches points alone.
pub record IsLeaf (statement : Stmt) : Type 0 where
  pub once : (reads : Reads) → (loop_lanes reads statement).is_one_store ≡ true
  pub steps_up : StepsUp statement
  pub at_once : (reads : Reads) (values : Values) → may_be_at_once reads statement values ≡ true
  pub touches : (reads : Reads) (values : Values) → is_sound reads everywhere all_points statement values ≡ true

-- Wherever the loops outside, of one Func, are in their iterations, the lanes of its vectorized loops may be done at once.
abbrev pub MayBeAtOnce : ℕ → loops.Values → List Loop → Stmt → Type 0
MayBeAtOnce func counts outside statement =
    (reads : Reads) (values : Values) → AllAreSmall values → AreIterations counts outside (loops_of func values) → may_be_at_once reads statement values ≡ true

-- While two statements' counters stand so, the second one loads no point at which the first one stores.
abbrev pub LoadsNoneOf : Reads → Stmt → Values → Values → Type 0
LoadsNoneOf reads body earlier later = is_sound reads everywhere (λ point. is_sound reads (all_but point) all_points body earlier) body later ≡ true

-- A body may be vectorized by a loop: there are 4, 8 or 16 lanes, the body stores once at most, no value of a split loop falls, and it loads no
-- point at which it stores in an earlier lane.
pub record MayBeVectorized (func : ℕ) (counts : loops.Values) (stage_loop : Loop) (outside : List Loop) (body : Stmt) : Type 0 where
  pub count : is_lane_count (counts stage_loop.id) ≡ true
  pub once : (reads : Reads) → (loop_lanes reads body).is_one_store ≡ true
  pub steps_up : StepsUp body
  pub apart : (reads : Reads) (values : Values) → AllAreSmall values → AreIterations counts outside (loops_of func values) → (earlier later : ℕ)
      → earlier < later → later < counts stage_loop.id
      → LoadsNoneOf reads body (with (record { func = func; id = stage_loop.id }) earlier values) (with (record { func = func; id = stage_loop.id }) later values)

-- a loop around a body, while others stand outside
abbrev pub GoesAround : ℕ → loops.Values → Loop → Stmt → Stmt → Type 0
GoesAround func counts stage_loop body statement =
    (outside : List Loop) → MayBeAtOnce func counts (stage_loop ∷ outside) body → (is_vectorized_loop stage_loop ≡ true → MayBeVectorized func counts stage_loop outside body)
    → MayBeAtOnce func counts outside statement

-- Of loops, the innermost first, that one alone may be vectorized, and then only around a body that may be.
abbrev pub MayBeAround : ℕ → loops.Values → List Loop → List Loop → Stmt → Type 0
MayBeAround func counts [] outside body = Unit {0}
MayBeAround func counts (own ∷ others) outside body =
    (is_vectorized_loop own ≡ true → MayBeVectorized func counts own (others ++ outside) body) × AllByRecursion (λ other. is_vectorized_loop other ≡ false)
    others

-- ---- splits

-- In lanes of a loop, under the values of whole variables that the splits of a stage give, a body loads no point at which it stores in an
-- earlier lane.
abbrev pub KeepsLanesApart : ℕ → Extents → List Split → Loop → List Loop → Stmt → Type 0
KeepsLanesApart func extents splits stage_loop outside leaf =
    (reads : Reads) (values : Values) → AllAreSmall values → AreIterations (loops.counts extents splits) outside (loops_of func values)
    → (earlier later : ℕ) → earlier < later → later < loops.counts extents splits stage_loop.id
    → (one other : loops.Values) → wholes extents splits [] (loops.with stage_loop.id earlier (loops_of func values)) ≡ one ∷ []
    → wholes extents splits [] (loops.with stage_loop.id later (loops_of func values)) ≡ other ∷ []
    → LoadsNoneOf reads leaf (put_loops func one values) (put_loops func other values)

-- So much is asked of the store under a vectorized loop.
pub record StoreMayBeVectorized (func : ℕ) (extents : Extents) (splits : List Split) (stage_loop : Loop) (outside : List Loop) (leaf : Stmt) : Type 0 where
  pub count : is_lane_count (loops.counts extents splits stage_loop.id) ≡ true
  pub apart : KeepsLanesApart func extents splits stage_loop outside leaf

-- Of loops, the innermost first, that one alone may be vectorized, and then only over a store that may be.
abbrev pub MayBeUnder : ℕ → Extents → List Split → List Loop → List Loop → Stmt → Type 0
MayBeUnder func extents splits [] outside leaf = Unit {0}
MayBeUnder func extents splits (own ∷ others) outside leaf =
    (is_vectorized_loop own ≡ true → StoreMayBeVectorized func extents splits own (others ++ outside) leaf) × AllByRecursion (λ other. is_vectorized_loop other
    ≡ false) others
