use Rattle.task_code_scalar.proofs.Spelling.{emits_then}
use Rattle.task_code_lanes.proofs.vectors.load_byte_row.Goals as goal

pub returns : goal.returns
returns c = emits_then c.in_ok-load_bytes.ensures c.in_ok-extend_bytes.ensures
