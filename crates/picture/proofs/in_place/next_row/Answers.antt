use Rattle.std.proofs.Common.{sym, ap, subst, ◌∙◌}
use Rattle.halide_pipeline.specs.declared.environments.Environment.{Environment}
use Rattle.halide_pipeline.specs.Pixel.{value}
use Rattle.picture.specs.declared.lines.KnownPixels.TheVariants as owns
use Rattle.picture.specs.inner.Lines.{pixel_point, reads_with, Knows}
use Rattle.picture.proofs.in_place.next_row.Goals as goal

pub returns-clause-values : goal.returns-clause-values
returns-clause-values c = λ plane are.
    let shared = rw c.in-Some.is at c.in_ok-row.ensures.values in
    let fits = subst (λ (start : Environment). Knows c.args.stretch.width start (owns.Pixels c.args.before) plane) (sym c.at_reduction.ensures) are in
    record {
      len = c.in_ok-pixels.ensures.len;
      each = λ at less. c.in_ok-pixels.ensures.each at less ∙ shared.each plane fits at less
          ∙ ap (λ (start : Environment). value (reads_with c.args.scene.now c.args.func_index plane) (pixel_point start at) c.args.update.now.right)
          c.at_reduction.ensures;
    }
