use Rattle.hrv_engines.proofs.Splits.{too_many}
use Rattle.hrv_engines.proofs.commands.read_command.Goals as goal

pub returns-in-Some-rest-2 : goal.returns-in-Some-rest-2
returns-in-Some-rest-2 c =
    too_many c.args.line.now c.in-Some.rest.now c.in-Some-rest.rest.now _ c.first_word.result.0.now c.first_word-2.result.0.now c.first_word-3.result.0.now
    (rw c.in-Some.is at c.first_word.ensures) (rw c.in-Some-rest.is at c.first_word-2.ensures) (rw c.in-Some-rest-2.is at c.first_word-3.ensures)
