use Rattle.std.proofs.Common.{◌∙◌, ap, sym, map, option_map, Some, None}
use Rattle.clap.specs.Walk.{texts}
use Rattle.hrv_command_line.specs.CommandLine.{asked_of}
use Rattle.hrv_command_line.specs.Commands.{choice_of}
use Rattle.hrv_command_line.specs.inner.Readings.{given_of}
use Rattle.hrv_command_line.proofs.Naming.{asks_so, command_given, no_command}
use Rattle.hrv_command_line.proofs.command_lines.named_in.Goals as goal

pub returns-in_default : goal.returns-in_default
returns-in_default c = no_command c.args.name.now (texts c.args.words.now) c.in_default.ensures

pub returns-in-None : goal.returns-in-None
returns-in-None c =
    command_given c.args.name.now (texts c.args.words.now) (map choice_of c.in-Some.choices.now) None c.in-Some.ensures
    (sym (ap (option_map given_of) c.in-None.is) ∙ c.in_ok-read_all.ensures)

pub returns-in-Some-2 : goal.returns-in-Some-2
returns-in-Some-2 c =
    asks_so c.asked_by.result (asked_of c.args.name.now (given_of c.in-Some-2.given)) _
    (command_given c.args.name.now (texts c.args.words.now) (map choice_of c.in-Some.choices.now) (Some (given_of c.in-Some-2.given)) c.in-Some.ensures
    (sym (ap (option_map given_of) c.in-Some-2.is) ∙ c.in_ok-read_all.ensures)) c.asked_by.ensures
