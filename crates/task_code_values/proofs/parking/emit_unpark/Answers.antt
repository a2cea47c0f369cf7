use Rattle.task_code_values.proofs.Parked.{unparks}
use Rattle.task_code_values.proofs.parking.emit_unpark.Goals as goal

pub returns : goal.returns
returns c = unparks c.args.r _ _ c.requires c.in_ok-read_first.ensures
