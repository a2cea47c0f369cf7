use Rattle.std.proofs.Common.{◌≡◌, ◌∙◌, ℕ, ◌+◌, ◌*◌, sym, ap, subst, arith}
use Rattle.halide_pipeline.specs.declared.environments.Environment.{Environment}
use Rattle.halide_pipeline.specs.Pixel.{at_reduction}
use Rattle.picture.specs.inner.Evaluation.{IsForward}
use Rattle.picture.specs.inner.Lines.{row_point}
use Rattle.picture.proofs.AlongUpdates.{reduction-row}
use Rattle.picture.proofs.update_runs.run_row.Goals as goal

pub apply_row-requires-clause-points : goal.apply_row-requires-clause-points
apply_row-requires-clause-points c at less =
    let update = c.args.pass.update.now in
    let x = c.args.slice.now.x in
    let y = c.args.slice.now.y in
    let begins : c.product-first.result ≡ c.args.row * update.first.extent = c.product-first.ensures.value in
    ap (λ (n : ℕ). at_reduction update (n + at) x y) begins ∙ reduction-row update c.args.row at x y less
    ∙ ap (λ (n : ℕ). row_point (at_reduction update n x y) at) (sym begins)
    ∙ ap (λ (start : Environment). row_point start at) (sym c.at_reduction-start.ensures)

pub apply_row-requires-clause-run : goal.apply_row-requires-clause-run
apply_row-requires-clause-run c =
    subst (λ (n : ℕ). IsForward c.args.scene.now c.args.pass.own c.args.pass.updates n c.args.slice.now) (sym c.product-first.ensures.value) c.requires.run

pub returns-clause-run : goal.returns-clause-run
returns-clause-run c =
    let whole : c.product-first.result + c.args.pass.update.now.first.extent ≡ (c.args.row + 1) * c.args.pass.update.now.first.extent =
    omega (arith, c.product-first.ensures.value) in
    subst (λ (n : ℕ). IsForward c.args.scene.now c.args.pass.own c.args.pass.updates n c.apply_row.new.slice) whole c.in_ok-apply_row.ensures.run
