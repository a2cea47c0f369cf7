use Rattle.picture.proofs.in_place.+stage_pixels.Given as goal

abbrev pub decreases-stage_pixels : goal.decreases-stage_pixels
decreases-stage_pixels l = l.updates
