use Rattle.lowering.proofs.phases.+lower_first.Given as goal

abbrev pub decreases-lower_first : goal.decreases-lower_first
decreases-lower_first l = l.count
