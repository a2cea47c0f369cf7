use Rattle.std.proofs.Common.{◌-◌, sym}
use Rattle.halide_pipeline.specs.Pixel.{stage}
use Rattle.picture.specs.inner.Evaluation.{inputs_of, earlier_of}
use Rattle.picture.proofs.PixelRows.{staged}
use Rattle.picture.proofs.in_place.+stage_pixels.Goals as goal

pub returns-in-Some-3 : goal.returns-in-Some-3
returns-in-Some-3 t c =
    let inputs = inputs_of c.args.scene.now in
    let earlier = earlier_of c.args.scene.now c.args.func_index in
    let over = rw c.in-Some-3.is at (c.in_ok-pixels-3.ensures (stage c.args.func_index c.args.func.now inputs earlier (c.args.updates - 1)) c.in_ok-before.ensures) in
    staged c.args.func_index c.args.func.now c.in-Some-get.update.now inputs earlier c.args.updates c.args.stretch c.in-Some-3.pixels.items c.if-updates-gt0-2.true
    (sym c.in-Some-get.ensures.value) over
