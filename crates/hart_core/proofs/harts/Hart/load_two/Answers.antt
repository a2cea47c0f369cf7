use Rattle.std.proofs.Common.{◌+◌, ◌*◌, length, arith, refl}
use Rattle.memory.specs.Access.{number_at}
use Rattle.hart_core.proofs.WordRuns.{lies_first, lies_part, loaded-on}
use Rattle.hart_core.proofs.harts.Hart.load_two.Goals as goal

pub load_register-requires-clause-lies : goal.load_register-requires-clause-lies
load_register-requires-clause-lies g c = lies_first (length (g.M.Bytes.memory c.args.memory.now)) c.args.address 8 4 (omega arith) c.requires.lies

pub load_register-requires-2-clause-lies : goal.load_register-requires-2-clause-lies
load_register-requires-2-clause-lies g c = lies_part (length (g.M.Bytes.memory c.args.memory.now)) c.args.address 8 4 4 (omega arith) c.requires.lies

pub returns : goal.returns
returns g c =
    loaded-on (number_at (g.M.Bytes.text c.args.memory.now) (g.M.Bytes.memory c.args.memory.now)) c.args.vd c.args.self.now c.load_register.new.self
    c.load_register-2.new.self (4 * c.args.part) c.args.address 4 4 (4 * (c.args.part + 1)) (c.args.address + 16) 8 (omega arith) (omega arith) refl
    c.load_register.ensures c.load_register-2.ensures
