use Rattle.task_code_values.proofs.Parked.{opens}
use Rattle.task_code_values.proofs.parking.emit_parking.Goals as goal

pub returns : goal.returns
returns c = opens _ _ c.in_ok-configure_one.ensures
