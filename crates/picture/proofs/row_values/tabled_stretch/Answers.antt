use Rattle.std.proofs.Common.{ℕ, List, subst, sym}
use Rattle.halide_pipeline.specs.Pixel.{Plane}
use Rattle.halide_pipeline.specs.Words as word
use Rattle.picture.specs.inner.Evaluation.{plane_of}
use Rattle.picture_rows.specs.Rows.{AreValues}
use Rattle.picture.proofs.row_values.tabled_stretch.Goals as goal

pub returns : goal.returns
returns c =
    let plane : Plane = plane_of c.args.scene.now c.args.func_index in
    let is = c.requires.tables.tables.each c.args.func_index c.in-Some.table.now (sym c.in-Some.ensures) in
    subst (λ (items : List ℕ). AreValues c.args.width (λ at. plane (word.add c.args.left at) c.args.y) items) (sym c.in_ok-pixels.ensures.items)
    (c.in-Some-columns.ensures (λ x. plane x c.args.y) (c.table_window.ensures plane is))
