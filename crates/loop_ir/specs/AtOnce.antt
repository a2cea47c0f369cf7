-- What lanes of a loop do at once: all load from buffers as they were before the first, and then store, in the order of lanes.
--
-- A lane is a statement that stores once at most, without a loop: a store, under the values of split loops and their guards.
-- This project's own.
use Rattle.std.specs.Prelude.{◌≡◌, ℕ, nat_lt, if◌then◌else◌, true, Option, Some, None}
use Rattle.halide_pipeline.specs.Pixel.{Planes, Reads, reads_of}
use Rattle.loop_ir.specs.declared.statements.Stmt.{Stmt, fold-Stmt}
use Rattle.loop_ir.specs.declared.statements.Stmt.TheOpen.{Stmt-F}
use Rattle.loop_ir.specs.declared.statements.Stmt.TheOpen as layer
use Rattle.loop_ir.specs.Buffers.{Points, put}
use Rattle.loop_ir.specs.Counters.{Values, with}
use Rattle.loop_ir.specs.Expressions.{value}
use Rattle.loop_ir.specs.LoopLanes.{loop_lanes, are_apart}
use Rattle.loop_ir.specs.Running.{iterated, whole_value, run}

-- a pixel that is stored, and where
pub record Effect : Type 0 where
  pub func : ℕ
  pub x : ℕ
  pub y : ℕ
  pub pixel : ℕ

abbrev pub effect_at : Reads → Stmt-F (Values → Option Effect) → Values → Option Effect
effect_at reads (layer.Store store) values =
    Some (record { func = store.func; x = value reads values store.x; y = value reads values store.y; pixel = value reads values store.value })
effect_at reads (layer.Sequence first second) values = None
effect_at reads (layer.For counter count kind body) values = None
effect_at reads (layer.Bind counter whole extent body) values =
    if nat_lt (whole_value whole values) extent then body (with counter (whole_value whole values) values) else None

-- what one lane stores where loads are answered so; none where a guard forbids it
unfoldable pub effect : Reads → Stmt → Values → Option Effect
effect reads statement = fold-Stmt (Values → Option Effect) (effect_at reads) statement

abbrev pub put_effect : Points → Option Effect → Planes → Planes
put_effect points None funcs = funcs
put_effect points (Some own) funcs = put points own.func own.x own.y own.pixel funcs

-- this many lanes, of which each has its own values of counters
abbrev pub at_once : Points → Planes → Stmt → (ℕ → Values) → ℕ → Planes → Planes
at_once points inputs body at count funcs = iterated count (λ lane. put_effect points (effect (reads_of inputs funcs) body (at lane))) funcs

-- ---- laws

-- Lanes of one store at most, of which none loads a point at which an earlier one stores, leave at once what they leave in order.
abbrev pub LanesAtOnceDoWhatIterationsDo : Type 0
LanesAtOnceDoWhatIterationsDo = (points : Points) (inputs : Planes) (body : Stmt) (at : ℕ → Values) (count : ℕ) (funcs : Planes)
    → (loop_lanes (reads_of inputs funcs) body).is_one_store ≡ true → are_apart (loop_lanes (reads_of inputs funcs) body) at count ≡ true
    → iterated count (λ iteration. run points inputs body (at iteration)) funcs ≡ at_once points inputs body at count funcs
