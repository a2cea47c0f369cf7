use Rattle.std.proofs.Common.{arith}
use Rattle.turn_log.proofs.LogLaws.{found_ok, only_ok}
use Rattle.turn_log.proofs.turn_logs.TurnLog.read.Goals as goal

pub returns-clause-found : goal.returns-clause-found
returns-clause-found c = found_ok c.args.bytes.now c.read_log.result (λ i. omega (arith, c.type_inv.bytes i)) c.read_log.ensures.ok

pub returns-clause-only : goal.returns-clause-only
returns-clause-only c = only_ok c.args.bytes.now c.read_log.result c.read_log.ensures.ok c.read_log.ensures.err
