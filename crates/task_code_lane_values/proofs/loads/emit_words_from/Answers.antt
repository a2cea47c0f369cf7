use Rattle.task_code_lane_values.proofs.Words.{words-from}
use Rattle.task_code_lane_values.proofs.loads.emit_words_from.Goals as goal

pub returns : goal.returns
returns c = words-from c.args.group c.args.k c.args.b _ _ _ c.requires.0 c.requires.1 c.slot.ensures.0 c.in_ok-load_at.ensures
