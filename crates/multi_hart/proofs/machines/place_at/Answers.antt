use Rattle.std.proofs.Common.{◌∙◌, arith}
use Rattle.multi_hart.proofs.Turning.{turned-two}
use Rattle.multi_hart.proofs.machines.place_at.Goals as goal

pub returns : goal.returns
returns c = c.rotate_right.ensures ∙ turned-two c.args.offset (omega arith)
