use Rattle.picture.proofs.SideBySide.{behind}
use Rattle.picture.proofs.together.run_box.Goals as goal

pub returns-then-branch : goal.returns-then-branch
returns-then-branch c = behind c.args.scene.now c.args.pass _ c.requires.pass (c.in_ok-run_points.ensures.table c.if-branch.true)

pub returns : goal.returns
returns c = c.nothing.ensures _
