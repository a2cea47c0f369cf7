use Rattle.std.proofs.Common.{◌∙◌, ap, sym, option_map}
use Rattle.clap.specs.Walk.{texts}
use Rattle.hrv_command_line.specs.CommandLine.{asked_by}
use Rattle.hrv_command_line.proofs.Asking.{named_holds}
use Rattle.hrv_command_line.proofs.command_lines.command.Goals as goal

pub returns-in-Some-clause-spelled : goal.returns-in-Some-clause-spelled
returns-in-Some-clause-spelled c =
    (named_holds (texts c.args.words.now) (asked_by c.in-Some.invocation)
    (sym c.in_ok-invocation.ensures ∙ ap (option_map asked_by) c.in-Some.is)).0

pub returns-in-Some-clause-limits : goal.returns-in-Some-clause-limits
returns-in-Some-clause-limits c =
    (named_holds (texts c.args.words.now) (asked_by c.in-Some.invocation)
    (sym c.in_ok-invocation.ensures ∙ ap (option_map asked_by) c.in-Some.is)).1
