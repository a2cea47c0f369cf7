use Rattle.std.proofs.Common.{◌+◌, length, arith, refl}
use Rattle.memory.specs.Access.{number_at}
use Rattle.hart_core.proofs.WordRuns.{lies_first, lies_part, loaded-on}
use Rattle.hart_core.proofs.harts.Hart.load_four.Goals as goal

pub load_two-requires-clause-lies : goal.load_two-requires-clause-lies
load_two-requires-clause-lies g c = lies_first (length (g.M.Bytes.memory c.args.memory.now)) c.args.address 16 8 (omega arith) c.requires.lies

pub load_two-requires-2-clause-lies : goal.load_two-requires-2-clause-lies
load_two-requires-2-clause-lies g c = lies_part (length (g.M.Bytes.memory c.args.memory.now)) c.args.address 16 8 8 (omega arith) c.requires.lies

pub returns : goal.returns
returns g c =
    loaded-on (number_at (g.M.Bytes.text c.args.memory.now) (g.M.Bytes.memory c.args.memory.now)) c.args.vd c.args.self.now c.load_two.new.self
    c.load_two-2.new.self 0 c.args.address 8 8 8 (c.args.address + 32) 16 (omega arith) (omega arith) refl
    c.load_two.ensures c.load_two-2.ensures
