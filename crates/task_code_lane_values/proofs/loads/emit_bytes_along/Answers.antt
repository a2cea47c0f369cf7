use Rattle.task_code_lane_values.proofs.Bytes.{bytes-along}
use Rattle.task_code_lane_values.proofs.loads.emit_bytes_along.Goals as goal

pub returns : goal.returns
returns c = bytes-along c.args.group c.args.k c.args.b _ _ _ c.requires.0 c.requires.1 c.slot.ensures.0 c.in_ok-load_byte_row.ensures
