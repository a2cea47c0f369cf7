-- Vectorized loops whose lanes may be done at once.
--
-- Vector code loads for all lanes of a loop before it stores for any, and does as many of them as guards let pass. What it asks for is that each
-- lane stores once at most, that no lane loads a point at which an earlier lane of the same run of the loop stores, and that no value of a split
-- loop falls from one lane to the next, so that the lanes which guards forbid are the last ones. Such lanes leave at once what they leave
-- one after the other (`AtOnce.antt`).
-- This project's own.
use Rattle.std.specs.Prelude.{◌≡◌, ℕ, ◌+◌, ◌-◌, ◌==◌, ◌&&◌, ◌||◌, nat_le, nat_lt, not, if◌then◌else◌, Bool, true, false}
use Rattle.halide_pipeline.specs.declared.expressions.Source.{Source}
use Rattle.halide_pipeline.specs.declared.expressions.Source.TheVariants as sources
use Rattle.halide_pipeline.specs.Pixel.{Reads}
use Rattle.halide_pipeline.specs.Points.{Point}
use Rattle.loop_ir.specs.declared.statements.LoopKind.{LoopKind}
use Rattle.loop_ir.specs.declared.statements.LoopKind.TheVariants as kinds
use Rattle.loop_ir.specs.declared.statements.Stmt.{Stmt, fold-Stmt, map-Stmt}
use Rattle.loop_ir.specs.declared.statements.Stmt.TheOpen.{Stmt-F}
use Rattle.loop_ir.specs.declared.statements.Stmt.TheOpen as layer
use Rattle.loop_ir.specs.Buffers.{Points}
use Rattle.loop_ir.specs.Counters.{Values, with}
use Rattle.loop_ir.specs.Running.{whole_value}
use Rattle.loop_ir.specs.Soundness.{every, is_sound, is_sound_at}

abbrev pub is_vectorized : LoopKind → Bool
is_vectorized kinds.Serial = false
is_vectorized kinds.Unrolled = false
is_vectorized kinds.Vectorized = true

-- as many lanes as groups of one, two and four vector registers have elements of 32 bits
abbrev pub is_lane_count : ℕ → Bool
is_lane_count count = count == 4 || (count == 8 || count == 16)

-- ---- points

abbrev pub everywhere : Points
everywhere func x y = true

abbrev pub all_points : Point → Bool
all_points point = true

abbrev pub is_source_of : ℕ → Source → Bool
is_source_of func (sources.Input input) = false
is_source_of func (sources.Func own) = own == func

-- all points of Funcs but this one
abbrev pub all_but : Point → Points
all_but point func x y = not (is_source_of func point.source && (point.x == x && point.y == y))

-- ---- lanes

-- of a statement: whether what it touches lies among points that may be written and points that pass a test, whether it stores once at
-- most, without loops, whether no value of a split loop falls from one lane to the next one, where guards let the next one pass, and whether the
-- lanes of its vectorized loops may be done at once
pub record LoopLanes : Type 0 where
  pub touches : Points → (Point → Bool) → Values → Bool
  pub is_one_store : Bool
  pub steps_up : Values → Values → Bool
  pub may_be_at_once : Values → Bool

-- Where all loads are answered so, one statement doesn't store at the point.
abbrev pub misses : LoopLanes → Values → Point → Bool
misses own_loop_lanes values point = own_loop_lanes.touches (all_but point) all_points values

-- no load of one lane is of a point at which an earlier lane stores
abbrev pub are_apart : LoopLanes → (ℕ → Values) → ℕ → Bool
are_apart body at count = every count (λ later. every later (λ earlier. body.touches everywhere (misses body (at earlier)) (at later)))

-- from each lane to the next
abbrev pub all_step_up : LoopLanes → (ℕ → Values) → ℕ → Bool
all_step_up body at count = every (count - 1) (λ lane. body.steps_up (at lane) (at (lane + 1)))

abbrev pub once_at : Stmt-F LoopLanes → Bool
once_at (layer.Store store) = true
once_at (layer.Sequence first second) = false
once_at (layer.For counter count kind body) = false
once_at (layer.Bind counter whole extent body) = body.is_one_store

abbrev pub steps_up_at : Stmt-F LoopLanes → Values → Values → Bool
steps_up_at (layer.Store store) now next = true
steps_up_at (layer.Sequence first second) now next = first.steps_up now next && second.steps_up now next
steps_up_at (layer.For counter count kind body) now next = true
steps_up_at (layer.Bind counter whole extent body) now next =
    if nat_lt (whole_value whole next) extent then nat_le (whole_value whole now) (whole_value whole next)
    && body.steps_up (with counter (whole_value whole now) now) (with counter (whole_value whole next) next) else true

abbrev pub at_once_at : Stmt-F LoopLanes → Values → Bool
at_once_at (layer.Store store) values = true
at_once_at (layer.Sequence first second) values = first.may_be_at_once values && second.may_be_at_once values
at_once_at (layer.For counter count kind body) values =
    (not (is_vectorized kind) || (is_lane_count count && (body.is_one_store && (are_apart body (λ iteration. with counter iteration values) count
    && all_step_up body (λ iteration. with counter iteration values) count))))
    && every count (λ iteration. body.may_be_at_once (with counter iteration values))
at_once_at (layer.Bind counter whole extent body) values =
    if nat_lt (whole_value whole values) extent then body.may_be_at_once (with counter (whole_value whole values) values) else true

-- what statements inside touch
abbrev pub touched_at : Points → (Point → Bool) → LoopLanes → Values → Bool
touched_at written loaded own_loop_lanes = own_loop_lanes.touches written loaded

abbrev pub lanes_at : Reads → Stmt-F LoopLanes → LoopLanes
lanes_at reads own = record {
  touches = λ written loaded. is_sound_at reads written loaded (map-Stmt LoopLanes (Values → Bool) (touched_at written loaded) own);
  is_one_store = once_at own;
  steps_up = steps_up_at own;
  may_be_at_once = at_once_at own;
}

unfoldable pub loop_lanes : Reads → Stmt → LoopLanes
loop_lanes reads statement = fold-Stmt LoopLanes (lanes_at reads) statement

-- The lanes of its vectorized loops may be done at once: each is a loop of 4, 8 or 16 lanes of one store at most, of which none loads a point
-- at which an earlier one stores, and in which values of split loops don't fall.
abbrev pub may_be_at_once : Reads → Stmt → Values → Bool
may_be_at_once reads statement values = (loop_lanes reads statement).may_be_at_once values

-- ---- laws

-- What it touches is what soundness asks about.
abbrev pub LanesTouchWhatIsSound : Type 0
LanesTouchWhatIsSound = (reads : Reads) (written : Points) (loaded : Point → Bool) (statement : Stmt) (values : Values)
    → (loop_lanes reads statement).touches written loaded values ≡ is_sound reads written loaded statement values
