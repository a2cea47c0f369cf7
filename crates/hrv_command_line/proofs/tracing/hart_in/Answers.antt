use Rattle.hrv_command_line.proofs.Numbers.{hart_taken, hart_untaken}
use Rattle.hrv_command_line.proofs.tracing.hart_in.Goals as goal

pub returns-then-number-lt8 : goal.returns-then-number-lt8
returns-then-number-lt8 c =
    hart_taken c.in-Ok.number c.args.text.now c.in-Ok.ensures.value.0.0 c.in-Ok.ensures.value.0.1 c.if-number-lt8.true

pub returns-in-Err : goal.returns-in-Err
returns-in-Err c = hart_untaken c.args.text.now c.in-Err.ensures.value.0
