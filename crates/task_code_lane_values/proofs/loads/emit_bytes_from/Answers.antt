use Rattle.task_code_lane_values.proofs.Bytes.{bytes-from}
use Rattle.task_code_lane_values.proofs.loads.emit_bytes_from.Goals as goal

pub returns : goal.returns
returns c =
    bytes-from c.args.group c.args.k c.args.b _ _ _ _ _ _ _ _ _ _ c.requires.0 c.requires.1 c.slot-r.ensures.0 c.spare-u.ensures.0 c.in_ok-arithmetic_by.ensures
    c.in_ok-times_eight.ensures c.in_ok-clear_low_bits.ensures c.in_ok-load_at.ensures c.in_ok-arithmetic.ensures c.in_ok-emit_number.ensures
    c.in_ok-arithmetic_by-2.ensures
