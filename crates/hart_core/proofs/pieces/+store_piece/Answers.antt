use Rattle.std.proofs.Common.{rules, ◌<◌, length, arith}
use Rattle.vector_unit.specs.Vector.{bits_of, element_from}
use Rattle.hart_core.proofs.Quads.{length-four, next-lie, stored-next}
use Rattle.hart_core.proofs.pieces.+store_piece.Goals as goal

pub store_piece-requires : goal.store_piece-requires
store_piece-requires g t c κs within =
    let memory = g.M.Bytes.memory c.args.memory.now in
    let some : 0 < c.args.others = omega (arith, c.if-others-gt0.true) in
    let w = c.args.group.now.width in
    let n = element_from c.args.state.now (bits_of w) c.args.group.now.v in
    let four = length-four memory (g.M.Bytes.memory c.store_quad.new.memory) w n c.args.address c.args.quad c.store_quad.ensures.put in
    let lies = next-lie (length memory) w c.args.address c.args.others c.bytes_of.result c.bytes_of.ensures some c.requires.lies in
    rw four (search (rules, lies))

pub returns-then-others-gt0-clause-put : goal.returns-then-others-gt0-clause-put
returns-then-others-gt0-clause-put g t c =
    stored-next c.args.group.now.width (element_from c.args.state.now (bits_of c.args.group.now.width) c.args.group.now.v) c.bytes_of.result c.args.address
    c.args.quad c.args.others
    (g.M.Bytes.memory c.args.memory.now) (g.M.Bytes.memory c.store_quad.new.memory) (g.M.Bytes.memory c.store_piece.new.memory)
    c.bytes_of.ensures (omega (arith, c.if-others-gt0.true)) c.store_quad.ensures.put c.store_piece.ensures.put
