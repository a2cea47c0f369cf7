use Rattle.std.proofs.Common.{ap, Result, Ok, Err}
use Rattle.std.specs.Result.{OnOk}
use Rattle.hart_core.specs.contracts.harts.Hart.{the_view}
use Rattle.hart_core.specs.HartState.{with_vectors}
use Rattle.hart_core.proofs.harts.Hart.compute.Goals as goal

given : {T E : Type 0} (result : Result T E) {P Q : Type 0} → (P → Q) → OnOk result P → OnOk result Q
given (Ok value) f p = f p
given (Err error) f p = p

pub returns-clause-state : goal.returns-clause-state
returns-clause-state c = rw (← c.self.view_is) (given c.execute.result (ap (with_vectors (the_view c.self.inside))) c.execute.ensures.state)
