use Rattle.picture.proofs.Kept.{pure-pixel}
use Rattle.picture.proofs.asking.attempt_pixel.Goals as goal

pub returns : goal.returns
returns c =
    pure-pixel c.args.scene.now c.args.top.place c.args.func.now c.args.top.x c.args.top.y c.at_point-point.result c.in_ok-pixel.pixel c.requires.is
    c.requires.pure c.at_point-point.ensures c.in_ok-pixel.ensures
