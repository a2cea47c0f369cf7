use Rattle.hart_core.proofs.pieces.+store_piece.Given as goal

abbrev pub decreases-store_piece : goal.decreases-store_piece
decreases-store_piece g l = l.others
