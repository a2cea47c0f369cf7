use Rattle.hrv_command_line.proofs.Numbers.{taken, untaken}
use Rattle.hrv_command_line.proofs.asked.number_up_to.Goals as goal

pub returns-then-number-most : goal.returns-then-number-most
returns-then-number-most c = λ none.
    taken none c.args.most c.in-Ok.number c.args.text.now c.in-Ok.ensures.value.0.0 c.in-Ok.ensures.value.0.1 c.if-number-ge1.true
    c.if-number-most.true

pub returns-in-Err : goal.returns-in-Err
returns-in-Err c = λ none. untaken none c.args.most c.args.text.now c.in-Err.ensures.value.0
