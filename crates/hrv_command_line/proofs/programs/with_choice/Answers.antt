use Rattle.hrv_command_line.specs.Commands.{choice_of, choice_rule}
use Rattle.hrv_command_line.proofs.Growing.{argument_added}
use Rattle.hrv_command_line.proofs.programs.with_choice.Goals as goal

pub returns : goal.returns
returns c =
    argument_added c.arg.result c.args.command c.choice_arg.result (choice_rule (choice_of c.args.choice.now)) c.choice_arg.ensures.rule
    c.choice_arg.ensures.local c.arg.ensures
