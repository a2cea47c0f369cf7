use Rattle.std.proofs.Common.{◌∙◌, ℕ, subst}
use Rattle.halide_pipeline.specs.Words as word
use Rattle.picture.specs.inner.Evaluation.{plane_of}
use Rattle.picture.proofs.Joined.{adds-rest}
use Rattle.picture_rows.specs.Rows.{AreValues}
use Rattle.picture.proofs.evaluation.numbered_row.Goals as goal

pub returns : goal.returns
returns c =
    subst (λ (y : ℕ). AreValues c.args.bounds.width (λ at. plane_of c.args.scene.now c.args.func_index (word.add c.args.bounds.left at) y) c.in_ok-row.row.items)
    (c.add-y.ensures ∙ adds-rest c.args.bounds.top c.args.number) c.in_ok-row.ensures
