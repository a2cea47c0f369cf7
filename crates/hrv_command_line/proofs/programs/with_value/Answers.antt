use Rattle.hrv_command_line.specs.Commands.{value_of, value_rule}
use Rattle.hrv_command_line.proofs.Growing.{argument_added}
use Rattle.hrv_command_line.proofs.programs.with_value.Goals as goal

pub returns : goal.returns
returns c =
    argument_added c.arg.result c.args.command c.value_arg.result (value_rule (value_of c.args.value.now)) c.value_arg.ensures.rule
    c.value_arg.ensures.local c.arg.ensures
