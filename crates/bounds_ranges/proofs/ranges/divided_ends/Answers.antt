use Rattle.std.proofs.Common.{arith}
use Rattle.bounds_ranges.proofs.Division.{divided_rises}
use Rattle.bounds_ranges.proofs.ranges.divided_ends.Goals as goal

pub returns-clause-ordered : goal.returns-clause-ordered
returns-clause-ordered c =
    let rises = divided_rises c.args.a.low c.args.a.high c.args.c c.requires.positive c.requires.ordered in
    omega (arith, rises, c.divided_end.ensures.value, c.divided_end-2.ensures.value)
