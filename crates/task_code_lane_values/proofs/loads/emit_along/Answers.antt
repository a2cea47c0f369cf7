use Rattle.task_code_lane_values.proofs.Words.{along-as}
use Rattle.task_code_lane_values.proofs.loads.emit_along.Goals as goal

pub returns-in_ok-emit_words_along-in-Words : goal.returns-in_ok-emit_words_along-in-Words
returns-in_ok-emit_words_along-in-Words c = along-as c.args.group c.args.k c.args.b _ _ c.args.pixels _ c.in-Words.is c.in_ok-emit_words_along-in-Words.ensures

pub returns-in_ok-emit_bytes_along-in-Bytes : goal.returns-in_ok-emit_bytes_along-in-Bytes
returns-in_ok-emit_bytes_along-in-Bytes c = along-as c.args.group c.args.k c.args.b _ _ c.args.pixels _ c.in-Bytes.is c.in_ok-emit_bytes_along-in-Bytes.ensures
