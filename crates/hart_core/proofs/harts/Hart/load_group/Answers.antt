use Rattle.hart_core.specs.HartState.{vectors_of}
use Rattle.hart_core.proofs.Quads.{count-quads}
use Rattle.hart_core.proofs.harts.Hart.load_group.Goals as goal

pub returns-else-count-eq4 : goal.returns-else-count-eq4
returns-else-count-eq4 g c = rw (c.count-count.ensures.value, c.vectors.ensures, count-quads (vectors_of c.args.self.now) c.requires.configured) at
    c.load_piece.ensures
