use Rattle.std.proofs.Common.{◌+◌, ◌*◌, length, arith}
use Rattle.vector_unit.specs.Vector.{bits_of, element_from}
use Rattle.hart_core.specs.VectorRows.{size_of}
use Rattle.hart_core.proofs.Lying.{first-lies}
use Rattle.hart_core.proofs.Quads.{length-stored, fourth, stored-once}
use Rattle.hart_core.proofs.pieces.store_quad.Goals as goal

pub store_one-requires-4-clause-covered : goal.store_one-requires-4-clause-covered
store_one-requires-4-clause-covered g c =
    let memory = g.M.Bytes.memory c.args.memory.now in
    let w = c.args.group.now.width in
    let size = size_of w in
    let b = c.bytes_of-bytes.result in
    let q = 4 * c.args.quad in
    let n = element_from c.args.state.now (bits_of w) c.args.group.now.v in
    let one = length-stored memory (g.M.Bytes.memory c.store_one.new.memory) size c.args.address (n q) c.store_one.ensures.put in
    let two = length-stored (g.M.Bytes.memory c.store_one.new.memory) (g.M.Bytes.memory c.store_one-2.new.memory) size (c.args.address + b) (n (q + 1))
    c.store_one-2.ensures.put in
    let three = length-stored (g.M.Bytes.memory c.store_one-2.new.memory) (g.M.Bytes.memory c.store_one-3.new.memory) size (c.args.address + b + b) (n (q + 2))
    c.store_one-3.ensures.put in
    rw (three, two, one, c.bytes_of-bytes.ensures) (first-lies (length memory) w _ _ (fourth (length memory) w c.args.address 1 (omega arith) c.requires.lies))

pub returns-clause-put : goal.returns-clause-put
returns-clause-put g c =
    stored-once c.args.group.now.width (element_from c.args.state.now (bits_of c.args.group.now.width) c.args.group.now.v)
    c.bytes_of-bytes.result c.args.address c.args.quad
    (g.M.Bytes.memory c.args.memory.now) (g.M.Bytes.memory c.store_one.new.memory) (g.M.Bytes.memory c.store_one-2.new.memory)
    (g.M.Bytes.memory c.store_one-3.new.memory) (g.M.Bytes.memory c.store_one-4.new.memory)
    c.bytes_of-bytes.ensures c.store_one.ensures.put c.store_one-2.ensures.put c.store_one-3.ensures.put c.store_one-4.ensures.put
