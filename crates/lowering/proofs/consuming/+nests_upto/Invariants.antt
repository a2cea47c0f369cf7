use Rattle.lowering.proofs.consuming.+nests_upto.Given as goal

abbrev pub decreases-nests_upto : goal.decreases-nests_upto
decreases-nests_upto l = l.count
