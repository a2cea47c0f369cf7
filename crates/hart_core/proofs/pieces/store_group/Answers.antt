use Rattle.hart_core.proofs.Quads.{count-quads}
use Rattle.hart_core.proofs.pieces.store_group.Goals as goal

pub returns-else-count-eq4-clause-put : goal.returns-else-count-eq4-clause-put
returns-else-count-eq4-clause-put g c = rw (c.count-count.ensures.value, count-quads c.args.state.now c.requires.configured) at c.store_piece.ensures.put
