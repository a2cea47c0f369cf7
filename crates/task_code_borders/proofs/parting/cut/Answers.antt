use Rattle.task_code_borders.proofs.Combining.{serial_made}
use Rattle.task_code_borders.proofs.parting.cut.Goals as goal

pub returns-in_ok-new_statement-in-None : goal.returns-in_ok-new_statement-in-None
returns-in_ok-new_statement-in-None c = λ not_border is.
    serial_made c.args.serial_loop.now.counter c.args.serial_loop.now.count c.args.serial_loop.now.body.now c.args.inner c.in_ok-new_statement-in-None.new_statement c.in_ok-new_statement-in-None.ensures
    not_border is
