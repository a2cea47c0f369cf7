use Rattle.std.proofs.Common.{ap, arith}
use Rattle.std.specs.Prelude.{Err}
use Rattle.gdb_session.proofs.Watching.{refused_for}
use Rattle.gdb_session.proofs.going.go_to.Goals as goal

pub unreachable-requires : goal.unreachable-requires
unreachable-requires c =
    let past = refused_for c.in-Err._refusal _ (λ e. c.in-Err.ensures.memory (ap Err e)) c.in-Err.ensures.err in
    omega (arith, past.1, c.requires)
