use Rattle.task_code_lane_values.proofs.Words.{from-as}
use Rattle.task_code_lane_values.proofs.loads.emit_from.Goals as goal

pub returns-in_ok-emit_words_from-in-Words : goal.returns-in_ok-emit_words_from-in-Words
returns-in_ok-emit_words_from-in-Words c = from-as c.args.group c.args.k c.args.b _ _ c.args.pixels _ c.in-Words.is c.in_ok-emit_words_from-in-Words.ensures

pub returns-in_ok-emit_bytes_from-in-Bytes : goal.returns-in_ok-emit_bytes_from-in-Bytes
returns-in_ok-emit_bytes_from-in-Bytes c = from-as c.args.group c.args.k c.args.b _ _ c.args.pixels _ c.in-Bytes.is c.in_ok-emit_bytes_from-in-Bytes.ensures
