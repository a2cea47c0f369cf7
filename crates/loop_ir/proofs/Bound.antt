-- What counters are bound to.
use Rattle.std.proofs.Common.{◌≡◌, ℕ, Bor, ap, sym, ◌∙◌}
use Rattle.loop_ir.specs.declared.expressions.Counter.{Counter}
use Rattle.loop_ir.specs.declared.running.Bindings.{Bindings, fold-roll-Bindings}
use Rattle.loop_ir.specs.declared.running.Bindings.TheOpen as layer
use Rattle.loop_ir.specs.declared.running.Bindings.TheVariants.{rolls-Empty, rolls-Bound}
use Rattle.loop_ir.specs.declared.running.Bindings.TheVariants as b
use Rattle.loop_ir.specs.Counters.{Values, no_values, with, values_at, values_of}

pub none_bound : values_of b.Empty ≡ no_values
unfolding values_of
none_bound = ap values_of (sym rolls-Empty) ∙ fold-roll-Bindings Values values_at layer.Empty

pub one_bound : (counter : Counter) (value : ℕ) (outer : Bor Bindings) → values_of (b.Bound counter value outer) ≡ with counter value (values_of outer.now)
unfolding values_of
one_bound counter value outer = ap values_of (sym (rolls-Bound counter value outer)) ∙ fold-roll-Bindings Values values_at (layer.Bound counter value outer)
