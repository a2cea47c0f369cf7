use Rattle.hart_core.proofs.harts.Hart.+load_piece.Given as goal

abbrev pub decreases-load_piece : goal.decreases-load_piece
decreases-load_piece g l = l.others
