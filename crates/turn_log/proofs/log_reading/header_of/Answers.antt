use Rattle.std.proofs.Common.{arith}
use Rattle.std.proofs.lemmas.Grind.{common_steps}
use Rattle.turn_log.specs.LogSpelling.{header_at}
use Rattle.turn_log.proofs.log_reading.header_of.Goals as goal

pub returns-clause-value : goal.returns-clause-value
unfolding header_at
returns-clause-value c = grind (arith, common_steps)

pub returns-then-bytes-lt16-clause-value : goal.returns-then-bytes-lt16-clause-value
unfolding header_at
returns-then-bytes-lt16-clause-value c = grind (arith, common_steps)

pub returns-then-bytes-lt4-clause-value : goal.returns-then-bytes-lt4-clause-value
unfolding header_at
returns-then-bytes-lt4-clause-value c = grind (arith, common_steps)

pub returns-then-harts-eq0-clause-value : goal.returns-then-harts-eq0-clause-value
unfolding header_at
returns-then-harts-eq0-clause-value c = grind (arith, common_steps)

pub returns-then-not-starts_with-clause-value : goal.returns-then-not-starts_with-clause-value
unfolding header_at
returns-then-not-starts_with-clause-value c = grind (arith, common_steps)
