use Rattle.bounds_inlining.proofs.Trees.{trees_call_no_inlined, trees_have_values}
use Rattle.bounds_inlining.proofs.laws.trees_are_put_in.Goals as goal

pub returns-clause-values : goal.returns-clause-values
returns-clause-values c = trees_have_values

pub returns-clause-calls : goal.returns-clause-calls
returns-clause-calls c = trees_call_no_inlined
