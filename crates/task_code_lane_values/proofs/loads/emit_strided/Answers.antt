use Rattle.task_code_lane_values.proofs.Words.{words-strided}
use Rattle.task_code_lane_values.proofs.loads.emit_strided.Goals as goal

pub returns : goal.returns
returns c = words-strided c.args.group c.args.k c.args.b c.args.s _ _ _ c.requires.0 c.requires.1.0 c.requires.1.1 c.slot.ensures.0 c.in_ok-load_strided.ensures
