use Rattle.std.proofs.Common.{arith}
use Rattle.std.proofs.lemmas.Grind.{common_steps}
use Rattle.bounds.proofs.judging.+shifts_hold.Goals as goal

pub returns-in-empty : goal.returns-in-empty
returns-in-empty t c = grind (arith, common_steps)

pub returns-in_ok-holds-in-None : goal.returns-in_ok-holds-in-None
returns-in_ok-holds-in-None t c = grind (arith, common_steps)

pub returns-then-own : goal.returns-then-own
returns-then-own t c = grind (arith, common_steps)

pub shifts_hold-requires : goal.shifts_hold-requires
shifts_hold-requires t c = grind (arith, common_steps)

pub shifts_hold-requires-in-Some : goal.shifts_hold-requires-in-Some
shifts_hold-requires-in-Some t c = grind (arith, common_steps)
