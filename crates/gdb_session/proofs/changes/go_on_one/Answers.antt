use Rattle.std.proofs.Common.{arith}
use Rattle.gdb_session.proofs.changes.go_on_one.Goals as goal

pub unreachable-requires : goal.unreachable-requires
unreachable-requires c = omega (arith, c.in-Err.ensures.err.1, c.requires)
