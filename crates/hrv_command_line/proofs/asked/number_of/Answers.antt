use Rattle.std.proofs.Common.{◌∙◌, ap}
use Rattle.hrv_command_line.specs.CommandLine.{number_or}
use Rattle.hrv_command_line.proofs.asked.number_of.Goals as goal

pub returns-in-Some : goal.returns-in-Some
returns-in-Some c = c.number_up_to.ensures c.args.none ∙ ap (number_or c.args.none c.args.most) c.in-Some.ensures
