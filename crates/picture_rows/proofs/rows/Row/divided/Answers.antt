use Rattle.std.proofs.Common.{arith}
use Rattle.std.proofs.lemmas.Grind.{common_steps}
use Rattle.picture_rows.proofs.rows.Row.divided.Goals as goal

pub returns-in_ok-values-in_default : goal.returns-in_ok-values-in_default
returns-in_ok-values-in_default c = grind (arith, common_steps)
