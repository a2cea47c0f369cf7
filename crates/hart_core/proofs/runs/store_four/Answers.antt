use Rattle.std.proofs.Common.{◌+◌, length, arith, refl}
use Rattle.vector_unit.specs.Vector.{element_from}
use Rattle.hart_core.proofs.WordRuns.{length-words, lies_first, lies_part, stored-on}
use Rattle.hart_core.proofs.runs.store_four.Goals as goal

pub store_two-requires-clause-lies : goal.store_two-requires-clause-lies
store_two-requires-clause-lies g c = lies_first (length (g.M.Bytes.memory c.args.memory.now)) c.args.address 16 8 (omega arith) c.requires.lies

pub store_two-requires-2-clause-lies : goal.store_two-requires-2-clause-lies
store_two-requires-2-clause-lies g c =
    rw (length-words (element_from c.args.state.now 32 c.args.vs3) (g.M.Bytes.memory c.args.memory.now) (g.M.Bytes.memory c.store_two.new.memory) 0 c.args.address
    8 c.store_two.ensures.put)
    (lies_part (length (g.M.Bytes.memory c.args.memory.now)) c.args.address 16 8 8 (omega arith) c.requires.lies)

pub returns-clause-put : goal.returns-clause-put
returns-clause-put g c =
    stored-on (element_from c.args.state.now 32 c.args.vs3) (g.M.Bytes.memory c.args.memory.now) (g.M.Bytes.memory c.store_two.new.memory)
    (g.M.Bytes.memory c.store_two-2.new.memory) 0 c.args.address 8 8 8 (c.args.address + 32) 16 (omega arith) (omega arith) refl
    c.store_two.ensures.put c.store_two-2.ensures.put
