-- Whether all points that a statement writes and loads are there.
--
-- Two tests say which points are there: of the Funcs' buffers those that may be written, and of all sources those that may be loaded.
-- This project's own.
use Rattle.std.specs.Prelude.{◌≡◌, ℕ, zero, suc, nat_lt, Bool, true, ◌&&◌, if◌then◌else◌, List, ◌++◌}
use Rattle.std.specs.List.{list_all}
use Rattle.halide_pipeline.specs.Pixel.{Reads}
use Rattle.halide_pipeline.specs.Points.{Point}
use Rattle.loop_ir.specs.declared.statements.Store.{Store}
use Rattle.loop_ir.specs.declared.statements.Stmt.{Stmt, fold-Stmt}
use Rattle.loop_ir.specs.declared.statements.Stmt.TheOpen.{Stmt-F}
use Rattle.loop_ir.specs.declared.statements.Stmt.TheOpen as layer
use Rattle.loop_ir.specs.Buffers.{Points}
use Rattle.loop_ir.specs.Counters.{Values, with}
use Rattle.loop_ir.specs.Expressions.{value, loads}
use Rattle.loop_ir.specs.Running.{whole_value}

-- Each of the iterations 0 to n - 1 passes.
unfoldable pub every : ℕ → (ℕ → Bool) → Bool
every zero test = true
every (suc n) test = every n test && test n

-- all that a store loads
abbrev pub store_loads : Reads → Values → Store → List Point
store_loads reads values store = loads reads values store.x ++ (loads reads values store.y ++ loads reads values store.value)

abbrev pub is_sound_store : Reads → Points → (Point → Bool) → Store → Values → Bool
is_sound_store reads written loaded store values =
    written store.func (value reads values store.x) (value reads values store.y) && list_all loaded (store_loads reads values store)

abbrev pub is_sound_at : Reads → Points → (Point → Bool) → Stmt-F (Values → Bool) → Values → Bool
is_sound_at reads written loaded (layer.Store store) values = is_sound_store reads written loaded store values
is_sound_at reads written loaded (layer.Sequence first second) values = first values && second values
is_sound_at reads written loaded (layer.For counter count kind body) values = every count (λ iteration. body (with counter iteration values))
is_sound_at reads written loaded (layer.Bind counter whole extent body) values =
    if nat_lt (whole_value whole values) extent then body (with counter (whole_value whole values) values) else true

-- Each store under all values that loops and tests give is of points that are there, where all its loads are answered so.
unfoldable pub is_sound : Reads → Points → (Point → Bool) → Stmt → Values → Bool
is_sound reads written loaded statement = fold-Stmt (Values → Bool) (is_sound_at reads written loaded) statement

-- So it is under all answers that are as wanted. What a store is answered depends on the stores before it, so what is wanted is to hold of
-- the buffers all along.
abbrev pub IsSound : (Reads → Type 0) → Points → (Point → Bool) → Stmt → Values → Type 0
IsSound IsWanted written loaded statement values = (reads : Reads) → IsWanted reads → is_sound reads written loaded statement values ≡ true

-- Buffers have each point that may be written.
abbrev pub Have : Points → Points → Type 0
Have written points = (func x y : ℕ) → written func x y ≡ true → points func x y ≡ true
