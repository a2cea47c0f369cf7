-- What each kind of statement does to a trace, in terms of its parts.
use Rattle.std.proofs.Common.{◌≡◌, ℕ, ap, sym, ◌∙◌}
use Rattle.std.specs.Prelude.{if◌then◌else◌, nat_lt}
use Rattle.halide_pipeline.specs.Pixel.{Planes}
use Rattle.loop_ir.specs.declared.expressions.Counter.{Counter}
use Rattle.loop_ir.specs.declared.statements.LoopKind.{LoopKind}
use Rattle.loop_ir.specs.declared.statements.Store.{Store}
use Rattle.loop_ir.specs.declared.statements.Whole.{Whole}
use Rattle.loop_ir.specs.declared.statements.Stmt.{Stmt, fold-roll-Stmt}
use Rattle.loop_ir.specs.declared.statements.Stmt.TheOpen as layer
use Rattle.loop_ir.specs.declared.statements.Stmt.TheVariants.{rolls-Store, rolls-Sequence, rolls-For, rolls-Bind}
use Rattle.loop_ir.specs.declared.statements.Stmt.TheVariants as s
use Rattle.loop_ir.specs.Buffers.{Points}
use Rattle.loop_ir.specs.Counters.{Values, with}
use Rattle.loop_ir.specs.Running.{iterated, whole_value}
use Rattle.loop_ir.specs.Stores.{Trace, trace, trace_at}

module _ (points : Points) (inputs : Planes) (func x y : ℕ) where
  abbrev pub traced : Stmt → Values → Trace → Trace
  traced = trace points inputs func x y

  pub trace_store : (store : Store) (values : Values) (so_far : Trace) → traced (s.Store store) values so_far ≡ trace_at points inputs func x y
      (layer.Store store) values so_far
  unfolding trace
  trace_store store values so_far =
      ap (λ statement. traced statement values so_far) (sym (rolls-Store store))
      ∙ ap (λ (effect : Values → Trace → Trace). effect values so_far) (fold-roll-Stmt (Values → Trace
      → Trace) (trace_at points inputs func x y) (layer.Store store))

  pub trace_sequence : (first second : Stmt) (values : Values) (so_far : Trace) → traced (s.Sequence first second) values so_far
      ≡ traced second values (traced first values so_far)
  unfolding trace
  trace_sequence first second values so_far =
      ap (λ statement. traced statement values so_far) (sym (rolls-Sequence first second))
      ∙ ap (λ (effect : Values → Trace → Trace). effect values so_far) (fold-roll-Stmt (Values → Trace
      → Trace) (trace_at points inputs func x y) (layer.Sequence first second))

  pub trace_for : (counter : Counter) (count : ℕ) (kind : LoopKind) (body : Stmt) (values : Values) (so_far : Trace)
      → traced (s.For counter count kind body) values so_far ≡ iterated count (λ iteration. traced body (with counter iteration values)) so_far
  unfolding trace
  trace_for counter count kind body values so_far =
      ap (λ statement. traced statement values so_far) (sym (rolls-For counter count kind body))
      ∙ ap (λ (effect : Values → Trace → Trace). effect values so_far) (fold-roll-Stmt (Values → Trace
      → Trace) (trace_at points inputs func x y) (layer.For counter count kind body))

  pub trace_bind : (counter : Counter) (whole : Whole) (extent : ℕ) (body : Stmt) (values : Values) (so_far : Trace)
      → traced (s.Bind counter whole extent body) values so_far
      ≡ (if nat_lt (whole_value whole values) extent then traced body (with counter (whole_value whole values) values) so_far else so_far)
  unfolding trace
  trace_bind counter whole extent body values so_far =
      ap (λ statement. traced statement values so_far) (sym (rolls-Bind counter whole extent body))
      ∙ ap (λ (effect : Values → Trace → Trace). effect values so_far) (fold-roll-Stmt (Values → Trace
      → Trace) (trace_at points inputs func x y) (layer.Bind counter whole extent body))
