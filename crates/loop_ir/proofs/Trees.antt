-- What each kind of statement does, in terms of its parts.
use Rattle.std.proofs.Common.{◌≡◌, ℕ, ap, sym, ◌∙◌}
use Rattle.std.specs.Prelude.{if◌then◌else◌, nat_lt}
use Rattle.halide_pipeline.specs.Pixel.{Planes, reads_of}
use Rattle.loop_ir.specs.declared.expressions.Counter.{Counter}
use Rattle.loop_ir.specs.declared.statements.LoopKind.{LoopKind}
use Rattle.loop_ir.specs.declared.statements.Store.{Store}
use Rattle.loop_ir.specs.declared.statements.Whole.{Whole}
use Rattle.loop_ir.specs.declared.statements.Stmt.{Stmt, fold-roll-Stmt}
use Rattle.loop_ir.specs.declared.statements.Stmt.TheOpen as layer
use Rattle.loop_ir.specs.declared.statements.Stmt.TheVariants.{rolls-Store, rolls-Sequence, rolls-For, rolls-Bind}
use Rattle.loop_ir.specs.declared.statements.Stmt.TheVariants as s
use Rattle.loop_ir.specs.Buffers.{Points}
use Rattle.loop_ir.specs.Counters.{Values, with}
use Rattle.loop_ir.specs.Running.{run, run_at, stored, iterated, whole_value}

module _ (points : Points) (inputs : Planes) where
  pub run_store : (store : Store) (values : Values) (funcs : Planes) → run points inputs (s.Store store) values funcs ≡ stored points (reads_of inputs funcs)
      store values funcs
  unfolding run
  run_store store values funcs =
      ap (λ statement. run points inputs statement values funcs) (sym (rolls-Store store))
      ∙ ap (λ (effect : Values → Planes → Planes). effect values funcs) (fold-roll-Stmt (Values → Planes → Planes) (run_at points inputs) (layer.Store store))

  pub run_sequence : (first second : Stmt) (values : Values) (funcs : Planes) → run points inputs (s.Sequence first second) values funcs
      ≡ run points inputs second values (run points inputs first values funcs)
  unfolding run
  run_sequence first second values funcs =
      ap (λ statement. run points inputs statement values funcs) (sym (rolls-Sequence first second))
      ∙ ap (λ (effect : Values → Planes → Planes). effect values funcs) (fold-roll-Stmt (Values → Planes
      → Planes) (run_at points inputs) (layer.Sequence first second))

  pub run_for : (counter : Counter) (count : ℕ) (kind : LoopKind) (body : Stmt) (values : Values) (funcs : Planes)
      → run points inputs (s.For counter count kind body) values funcs ≡ iterated count (λ iteration. run points inputs body (with counter iteration values)) funcs
  unfolding run
  run_for counter count kind body values funcs =
      ap (λ statement. run points inputs statement values funcs) (sym (rolls-For counter count kind body))
      ∙ ap (λ (effect : Values → Planes → Planes). effect values funcs) (fold-roll-Stmt (Values → Planes
      → Planes) (run_at points inputs) (layer.For counter count kind body))

  pub run_bind : (counter : Counter) (whole : Whole) (extent : ℕ) (body : Stmt) (values : Values) (funcs : Planes)
      → run points inputs (s.Bind counter whole extent body) values funcs
      ≡ (if nat_lt (whole_value whole values) extent then run points inputs body (with counter (whole_value whole values) values) funcs else funcs)
  unfolding run
  run_bind counter whole extent body values funcs =
      ap (λ statement. run points inputs statement values funcs) (sym (rolls-Bind counter whole extent body))
      ∙ ap (λ (effect : Values → Planes → Planes). effect values funcs) (fold-roll-Stmt (Values → Planes
      → Planes) (run_at points inputs) (layer.Bind counter whole extent body))
