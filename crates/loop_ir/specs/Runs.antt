-- Where a Func's points are stored by runs of its vectorized loops: all lanes of such a loop, while all other loops stay.
--
-- A statement stores in runs if it stores in the Func's buffer in vectorized loops of the Func alone, and a run of one stores at the point exactly
-- if that is expected of it: for all points, at exactly those. That each lane stores once at most is said of lanes (`LoopLanes.antt`).
-- This project's own.
use Rattle.std.specs.Prelude.{◌≡◌, ◌≢◌, ℕ, ◌==◌, ◌&&◌, not, nat_lt, if◌then◌else◌, Bool, true}
use Rattle.halide_pipeline.specs.declared.expressions.Source.TheVariants as sources
use Rattle.halide_pipeline.specs.Pixel.{Reads}
use Rattle.halide_pipeline.specs.Points.{Point}
use Rattle.loop_ir.specs.declared.statements.Stmt.{Stmt, fold-Stmt, map-Stmt}
use Rattle.loop_ir.specs.declared.statements.Stmt.TheOpen.{Stmt-F}
use Rattle.loop_ir.specs.declared.statements.Stmt.TheOpen as layer
use Rattle.loop_ir.specs.Counters.{Values, with}
use Rattle.loop_ir.specs.LoopLanes.{is_vectorized, all_but, all_points}
use Rattle.loop_ir.specs.Running.{whole_value}
use Rattle.loop_ir.specs.Soundness.{every, is_sound, is_sound_at}

-- ---- statements of one Func

abbrev pub is_about_at : ℕ → Stmt-F Bool → Bool
is_about_at buffer_index (layer.Store store) = store.func == buffer_index
is_about_at buffer_index (layer.Sequence first second) = first && second
is_about_at buffer_index (layer.For counter count kind body) = counter.func == buffer_index && body
is_about_at buffer_index (layer.Bind counter whole extent body) = body

-- All its loops are the Func's, and all its stores go to the Func's buffer.
unfoldable pub is_about : ℕ → Stmt → Bool
is_about buffer_index statement = fold-Stmt Bool (is_about_at buffer_index) statement

-- ---- runs

-- of a statement: whether it stores not at the point, and whether it stores there in runs alone
pub record Runs : Type 0 where
  pub misses : Values → Bool
  pub are_runs : Values → Bool

abbrev pub are_same : Bool → Bool → Bool
are_same a b = if a then b else not b

abbrev pub missed_by : Runs → Values → Bool
missed_by own_runs = own_runs.misses

abbrev pub point_of : ℕ → ℕ → ℕ → Point
point_of func x y = record { source = sources.Func func; x = x; y = y }

abbrev pub are_runs_at : ℕ → (Values → Bool) → Stmt-F Runs → Values → Bool
are_runs_at func expected (layer.Store store) values = not (store.func == func)
are_runs_at func expected (layer.Sequence first second) values = first.are_runs values && second.are_runs values
are_runs_at func expected (layer.For counter count kind body) values =
    if is_vectorized kind && counter.func == func
    then are_same (every count (λ lane. body.misses (with counter lane values))) (not (expected values))
    else every count (λ iteration. body.are_runs (with counter iteration values))
are_runs_at func expected (layer.Bind counter whole extent body) values =
    if nat_lt (whole_value whole values) extent then body.are_runs (with counter (whole_value whole values) values) else true

abbrev pub runs_at : Reads → ℕ → ℕ → ℕ → (Values → Bool) → Stmt-F Runs → Runs
runs_at reads func x y expected own = record {
  misses = is_sound_at reads (all_but (point_of func x y)) all_points (map-Stmt Runs (Values → Bool) missed_by own);
  are_runs = are_runs_at func expected own;
}

unfoldable pub runs : Reads → ℕ → ℕ → ℕ → (Values → Bool) → Stmt → Runs
runs reads func x y expected statement = fold-Stmt Runs (runs_at reads func x y expected) statement

-- Where loads are answered so, the statement stores in the Func's buffer in runs of its vectorized loops alone, and a run stores at the point
-- exactly if that is expected of a run under the values that counters outside of the loop stand at.
abbrev pub stores_in_runs : Reads → ℕ → ℕ → ℕ → (Values → Bool) → Stmt → Values → Bool
stores_in_runs reads func x y expected statement values = (runs reads func x y expected statement).are_runs values

-- ---- laws

-- What a statement stores not at is what soundness says of it where that point alone may not be written.
abbrev pub RunsMissWhatIsSound : Type 0
RunsMissWhatIsSound = (reads : Reads) (func x y : ℕ) (expected : Values → Bool) (statement : Stmt) (values : Values)
    → (runs reads func x y expected statement).misses values ≡ is_sound reads (all_but (point_of func x y)) all_points statement values

-- A statement of another Func stores in no run of this one, and nowhere else in it.
abbrev pub OthersStoreInNoRun : Type 0
OthersStoreInNoRun = (reads : Reads) (func x y : ℕ) (expected : Values → Bool) (buffer_index : ℕ) (statement : Stmt) (values : Values)
    → func ≢ buffer_index → is_about buffer_index statement ≡ true
    → stores_in_runs reads func x y expected statement values ≡ true
