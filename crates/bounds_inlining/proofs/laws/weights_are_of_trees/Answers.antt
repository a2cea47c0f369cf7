use Rattle.bounds_inlining.proofs.Trees.{counts_are_of_trees, needs_are_of_trees}
use Rattle.bounds_inlining.proofs.laws.weights_are_of_trees.Goals as goal

pub returns-clause-counts : goal.returns-clause-counts
returns-clause-counts c = counts_are_of_trees

pub returns-clause-needs : goal.returns-clause-needs
returns-clause-needs c = needs_are_of_trees
