use Rattle.task_code_values.proofs.Parked.{parks}
use Rattle.task_code_values.proofs.parking.emit_park.Goals as goal

pub returns : goal.returns
returns c = parks c.args.s _ _ c.requires c.in_ok-spread.ensures
