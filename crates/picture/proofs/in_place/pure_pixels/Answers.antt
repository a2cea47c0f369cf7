use Rattle.picture.proofs.SideBySide.{pure-stretch}
use Rattle.picture.proofs.in_place.pure_pixels.Goals as goal

pub returns : goal.returns
returns c =
    let shared = rw c.in-Some.is at c.in_ok-row.ensures.values in
    pure-stretch c.args.scene.now c.args.func_index c.args.func.now c.args.stretch c.at_point.result c.in-Some.row c.in_ok-pixels.pixels.items c.at_point.ensures
    (λ plane at less. shared.each plane tt at less) c.in_ok-pixels.ensures
