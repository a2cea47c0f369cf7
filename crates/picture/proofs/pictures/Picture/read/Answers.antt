use Rattle.picture.proofs.ReadBack.{IfOk-spelled, Gives-again}
use Rattle.picture.proofs.pictures.Picture.read.Goals as goal

pub returns-clause-found : goal.returns-clause-found
returns-clause-found c = IfOk-spelled c.args.text.now c.picture_of.result (rw c.as_bytes.ensures.value at c.picture_of.ensures.value)

pub returns-clause-only : goal.returns-clause-only
returns-clause-only c picture = Gives-again c.args.text.now c.picture_of.result picture (rw c.as_bytes.ensures.value at c.picture_of.ensures.value)
