use Rattle.std.proofs.Common.{◌≡◌, ◌∙◌, ℕ, ◌*◌, ap, subst, arith}
use Rattle.halide_pipeline.specs.Pixel.{points}
use Rattle.picture.specs.inner.Evaluation.{IsForward}
use Rattle.picture.proofs.Forward.{slice_from_run}
use Rattle.picture.proofs.update_runs.run_rows.Goals as goal

pub loop-row-init : goal.loop-row-init
loop-row-init c =
    let none : 0 ≡ 0 * c.args.pass.update.now.first.extent = omega arith in
    record {
      of = record { first = c.in_ok-slice.ensures.place.first; second = c.in_ok-slice.ensures.place.second };
      run = subst (λ (n : ℕ). IsForward c.args.scene.now c.args.pass.own c.args.pass.updates n c.in_ok-slice.slice) none c.in_ok-slice.ensures.run;
    }

pub returns : goal.returns
returns c =
    let last : c.loop-row.row ≡ c.rows-row-end.result = omega arith in
    let whole : c.loop-row.row * c.args.pass.update.now.first.extent ≡ points c.args.pass.update.now =
    ap (λ (n : ℕ). n * c.args.pass.update.now.first.extent) (last ∙ c.rows-row-end.ensures) ∙ omega arith in
    slice_from_run c.args.scene.now c.args.pass.own c.args.pass.func.now c.args.pass.update.now c.args.pass.updates c.loop-row.slice c.requires.pass.is
    c.requires.pass.next
    (subst (λ (n : ℕ). IsForward c.args.scene.now c.args.pass.own c.args.pass.updates n c.loop-row.slice) whole c.loop-row.invariant.run)
