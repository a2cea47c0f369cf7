use Rattle.picture.proofs.together.box_before.Goals as goal

pub returns : goal.returns
returns c = record { are = c.in_ok-pixels.ensures }
