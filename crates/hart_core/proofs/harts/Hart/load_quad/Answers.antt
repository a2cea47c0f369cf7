use Rattle.memory.specs.Access.{number_at}
use Rattle.hart_core.proofs.Quads.{loaded-once}
use Rattle.hart_core.proofs.harts.Hart.load_quad.Goals as goal

pub returns : goal.returns
returns g c =
    loaded-once c.args.group.now.width c.args.group.now.v (number_at (g.M.Bytes.text c.args.memory.now) (g.M.Bytes.memory c.args.memory.now))
    c.bytes_of-bytes.result c.args.address c.args.quad
    c.args.self.now c.load_one.new.self c.load_one-2.new.self c.load_one-3.new.self c.load_one-4.new.self
    c.bytes_of-bytes.ensures c.load_one.ensures c.load_one-2.ensures c.load_one-3.ensures c.load_one-4.ensures
