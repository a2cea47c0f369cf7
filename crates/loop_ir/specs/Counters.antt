-- What counters stand at.
-- This project's own.
use Rattle.std.specs.Prelude.{ℕ, ◌==◌, ◌&&◌, Bool, if◌then◌else◌}
use Rattle.schedule_lines.specs.Directives.{same_id}
use Rattle.loop_ir.specs.declared.expressions.Counter.{Counter}
use Rattle.loop_ir.specs.declared.running.Bindings.{Bindings, fold-Bindings}
use Rattle.loop_ir.specs.declared.running.Bindings.TheOpen.{Bindings-F}
use Rattle.loop_ir.specs.declared.running.Bindings.TheOpen as layer

abbrev pub same_counter : Counter → Counter → Bool
same_counter a b = a.func == b.func && same_id a.id b.id

abbrev pub Values : Type 0
Values = Counter → ℕ

-- before anything has a value
abbrev pub no_values : Values
no_values counter = 0

-- one counter is at a value, the others where they were
abbrev pub with : Counter → ℕ → Values → Values
with loop_counter value values counter = if same_counter counter loop_counter then value else values counter

-- the latest is first
abbrev pub values_at : Bindings-F Values → Values
values_at layer.Empty = no_values
values_at (layer.Bound counter value outer) = with counter value outer.now

unfoldable pub values_of : Bindings → Values
values_of bindings = fold-Bindings Values values_at bindings
