use Rattle.std.proofs.Common.{arith}
use Rattle.memory.specs.Access.{number_at}
use Rattle.hart_core.proofs.Quads.{loaded-next}
use Rattle.hart_core.proofs.harts.Hart.+load_piece.Goals as goal

pub returns-then-others-gt0 : goal.returns-then-others-gt0
returns-then-others-gt0 g t c =
    loaded-next c.args.group.now.width c.args.group.now.v (number_at (g.M.Bytes.text c.args.memory.now) (g.M.Bytes.memory c.args.memory.now))
    c.bytes_of.result c.args.address c.args.quad c.args.others
    c.args.self.now c.load_quad.new.self c.load_piece.new.self
    c.bytes_of.ensures (omega (arith, c.if-others-gt0.true)) c.load_quad.ensures c.load_piece.ensures
