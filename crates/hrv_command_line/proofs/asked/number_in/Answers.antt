use Rattle.hrv_command_line.proofs.Numbers.{number_taken, number_untaken}
use Rattle.hrv_command_line.proofs.asked.number_in.Goals as goal

pub returns-in-Ok : goal.returns-in-Ok
returns-in-Ok c = number_taken c.in-Ok.number c.args.text.now c.in-Ok.ensures.value.0.0 c.in-Ok.ensures.value.0.1

pub returns-in-Err : goal.returns-in-Err
returns-in-Err c = number_untaken c.args.text.now c.in-Err.ensures.value.0
