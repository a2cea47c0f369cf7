use Rattle.std.proofs.Common.{arith}
use Rattle.std.proofs.lemmas.Grind.{common_steps}
use Rattle.picture_rows.proofs.rows.Row.into_values.Goals as goal

pub returns-in_ok-values-in-Clamped : goal.returns-in_ok-values-in-Clamped
returns-in_ok-values-in-Clamped c = grind (arith, common_steps)

pub returns-in_ok-values-in-Same : goal.returns-in_ok-values-in-Same
returns-in_ok-values-in-Same c = grind (arith, common_steps)

pub returns-in_ok-values-in-Step : goal.returns-in_ok-values-in-Step
returns-in_ok-values-in-Step c = grind (arith, common_steps)
