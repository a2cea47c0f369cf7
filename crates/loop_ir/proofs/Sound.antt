-- What soundness of each kind of statement is, in terms of its parts.
use Rattle.std.proofs.Common.{◌≡◌, ℕ, Bool, true, ap, sym, ◌∙◌}
use Rattle.std.specs.Prelude.{◌&&◌, if◌then◌else◌, nat_lt}
use Rattle.halide_pipeline.specs.Pixel.{Reads}
use Rattle.halide_pipeline.specs.Points.{Point}
use Rattle.loop_ir.specs.declared.expressions.Counter.{Counter}
use Rattle.loop_ir.specs.declared.statements.LoopKind.{LoopKind}
use Rattle.loop_ir.specs.declared.statements.Store.{Store}
use Rattle.loop_ir.specs.declared.statements.Whole.{Whole}
use Rattle.loop_ir.specs.declared.statements.Stmt.{Stmt, fold-roll-Stmt}
use Rattle.loop_ir.specs.declared.statements.Stmt.TheOpen as layer
use Rattle.loop_ir.specs.declared.statements.Stmt.TheVariants.{rolls-Store, rolls-Sequence, rolls-For, rolls-Bind}
use Rattle.loop_ir.specs.declared.statements.Stmt.TheVariants as s
use Rattle.loop_ir.specs.Buffers.{Points}
use Rattle.loop_ir.specs.Counters.{Values, with}
use Rattle.loop_ir.specs.Running.{whole_value}
use Rattle.loop_ir.specs.Soundness.{every, is_sound_store, is_sound, is_sound_at}

module _ (reads : Reads) (written : Points) (loaded : Point → Bool) where
  abbrev of : Stmt → Values → Bool
  of = is_sound reads written loaded

  pub sound_store : (store : Store) (values : Values) → is_sound reads written loaded (s.Store store) values ≡ is_sound_store reads written loaded store values
  unfolding is_sound
  sound_store store values =
      ap (λ statement. of statement values) (sym (rolls-Store store))
      ∙ ap (λ (sound : Values → Bool). sound values) (fold-roll-Stmt (Values → Bool) (is_sound_at reads written loaded) (layer.Store store))

  pub sound_sequence : (first second : Stmt) (values : Values) → is_sound reads written loaded (s.Sequence first second) values
      ≡ (is_sound reads written loaded first values && is_sound reads written loaded second values)
  unfolding is_sound
  sound_sequence first second values =
      ap (λ statement. of statement values) (sym (rolls-Sequence first second))
      ∙ ap (λ (sound : Values → Bool). sound values) (fold-roll-Stmt (Values → Bool) (is_sound_at reads written loaded) (layer.Sequence first second))

  pub sound_for : (counter : Counter) (count : ℕ) (kind : LoopKind) (body : Stmt) (values : Values)
      → is_sound reads written loaded (s.For counter count kind body) values ≡ every count (λ iteration. is_sound reads written loaded body
      (with counter iteration values))
  unfolding is_sound
  sound_for counter count kind body values =
      ap (λ statement. of statement values) (sym (rolls-For counter count kind body))
      ∙ ap (λ (sound : Values → Bool). sound values) (fold-roll-Stmt (Values → Bool) (is_sound_at reads written loaded) (layer.For counter count kind body))

  pub sound_bind : (counter : Counter) (whole : Whole) (extent : ℕ) (body : Stmt) (values : Values)
      → is_sound reads written loaded (s.Bind counter whole extent body) values
      ≡ (if nat_lt (whole_value whole values) extent then is_sound reads written loaded body (with counter (whole_value whole values) values) else true)
  unfolding is_sound
  sound_bind counter whole extent body values =
      ap (λ statement. of statement values) (sym (rolls-Bind counter whole extent body))
      ∙ ap (λ (sound : Values → Bool). sound values) (fold-roll-Stmt (Values → Bool) (is_sound_at reads written loaded) (layer.Bind counter whole extent body))
