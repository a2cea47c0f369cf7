use Rattle.std.proofs.Common.{ap}
use Rattle.hart_core.specs.contracts.harts.Hart.{the_view}
use Rattle.hart_core.specs.HartState.{with_vectors}
use Rattle.hart_core.proofs.harts.Hart.compute_on_wholes.Goals as goal

pub returns-clause-state : goal.returns-clause-state
returns-clause-state c =
    rw (← c.self.view_is) (λ e. ap (with_vectors (the_view c.self.inside)) (c.execute_on_wholes.ensures.state e))
