use Rattle.memory.proofs.StaysBytes.{put-bytes, spread-bytes}
use Rattle.memory.proofs.laws.writes_keep_bytes.Goals as goal

pub returns-clause-data : goal.returns-clause-data
returns-clause-data c = put-bytes

pub returns-clause-numbers : goal.returns-clause-numbers
returns-clause-numbers c = spread-bytes
