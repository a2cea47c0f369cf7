use Rattle.task_code_lane_values.proofs.Gathering.{offsets-words, offsets-bytes}
use Rattle.task_code_lane_values.proofs.loads.emit_offsets.Goals as goal

pub returns-in_ok-times_four-in-Words : goal.returns-in_ok-times_four-in-Words
returns-in_ok-times_four-in-Words c =
    offsets-words c.args.group c.args.k c.requires c.args.pixels _ _ _ c.in-Words.is c.slot.ensures.0 c.in_ok-times_four-in-Words.ensures

pub returns-in-Bytes : goal.returns-in-Bytes
returns-in-Bytes c = offsets-bytes c.args.group c.args.k c.args.pixels _ c.in-Bytes.is
