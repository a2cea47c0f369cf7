use Rattle.lowering.proofs.phases.+with_stages.Given as goal

abbrev pub decreases-with_stages : goal.decreases-with_stages
decreases-with_stages l = l.last
