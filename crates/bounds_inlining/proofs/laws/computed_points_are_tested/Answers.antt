use Rattle.bounds_inlining.proofs.Passing.{computed_points_are_tested}
use Rattle.bounds_inlining.proofs.laws.computed_points_are_tested.Goals as goal

pub returns : goal.returns
returns c = computed_points_are_tested
