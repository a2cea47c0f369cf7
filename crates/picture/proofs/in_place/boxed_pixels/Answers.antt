use Rattle.std.proofs.Common.{◌+◌, ℕ, List, subst, sym}
use Rattle.halide_pipeline.specs.Pixel.{Plane}
use Rattle.picture.specs.inner.Evaluation.{stage_in}
use Rattle.picture.specs.inner.PixelRows.{IsRowOf}
use Rattle.picture.proofs.in_place.boxed_pixels.Goals as goal

pub returns : goal.returns
returns c =
    let scene = c.args.scene.now in
    let plane : Plane = stage_in scene.funcs.now scene.pictures.now c.args.func_index (c.args.updates + 1) in
    let is = c.in-Some.ensures scene.funcs.now scene.pictures.now c.requires.tables.known in
    subst (λ (items : List ℕ). IsRowOf plane c.args.stretch items) (sym c.in_ok-pixels.ensures.items) (c.in-Some-columns.ensures (λ x. plane x c.args.stretch.y)
    (c.table_window.ensures plane is))
