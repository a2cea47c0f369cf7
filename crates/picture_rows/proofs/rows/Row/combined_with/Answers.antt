use Rattle.std.proofs.Common.{arith}
use Rattle.std.proofs.lemmas.Grind.{common_steps}
use Rattle.picture_rows.proofs.Steps.{step-adds, step-subtracts}
use Rattle.picture_rows.proofs.BetweenBounds.{step-maximum, step-minimum, clamped-minimum}
use Rattle.picture_rows.proofs.rows.Row.combined_with.Goals as goal

pub returns-in-Step-Add : goal.returns-in-Step-Add
returns-in-Step-Add c = step-adds _ c.in-Step-Add.first c.args.second _ _ _ c.in-Step-Add.is-0 c.in-Step-Add.is-1 c.add.ensures

pub returns-in-Step-Subtract : goal.returns-in-Step-Subtract
returns-in-Step-Subtract c = step-subtracts _ c.in-Step-Subtract.first c.args.second _ _ _ c.in-Step-Subtract.is-0 c.in-Step-Subtract.is-1 c.subtract.ensures

pub returns-in-Step-Maximum : goal.returns-in-Step-Maximum
returns-in-Step-Maximum c = step-maximum _ c.in-Step-Maximum.first c.args.second _ _ c.in-Step-Maximum.is-0 c.in-Step-Maximum.is-1

pub returns-in-Step-Minimum : goal.returns-in-Step-Minimum
returns-in-Step-Minimum c = step-minimum _ c.in-Step-Minimum.first c.args.second _ _ c.in-Step-Minimum.is-0 c.in-Step-Minimum.is-1

pub returns-in-Clamped-Minimum : goal.returns-in-Clamped-Minimum
returns-in-Clamped-Minimum c =
    clamped-minimum _ c.args.second _ c.in-Clamped-Minimum.clamp _ _ c.in-Clamped-Minimum.is-0 c.in-Clamped-Minimum.is-1 c.minimum.ensures

pub returns-in_ok-values-in_default : goal.returns-in_ok-values-in_default
returns-in_ok-values-in_default c = grind (arith, common_steps)
