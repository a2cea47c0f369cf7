use Rattle.picture.specs.inner.Evaluation.{plane_of}
use Rattle.picture.proofs.lookups.known_pixel.Goals as goal

pub returns-in-Some : goal.returns-in-Some
returns-in-Some c = rw c.in-Some.is at (c.tabled.ensures (plane_of c.args.scene.now c.args.func_index) (c.requires.tables.tables.each c.args.func_index))
