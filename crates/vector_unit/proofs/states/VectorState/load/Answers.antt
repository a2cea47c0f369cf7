use Rattle.std.proofs.Common.{◌≤◌}
use Rattle.vector_unit.specs.Vector.{count}
use Rattle.vector_unit.proofs.Actives.{active_first}
use Rattle.vector_unit.proofs.states.VectorState.load.Goals as goal

pub returns : goal.returns
returns c =
    let few = c.count.ensures.few c.requires in
    let small : count c.args.self.now ≤ 64 = rw c.count.ensures.value at few in
    let first = active_first c.args.self.now c.args.vm small in
    rw (c.count.ensures.value, c.active-active.ensures, first) at c.fill.ensures
