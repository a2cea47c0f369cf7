use Rattle.hrv_command_line.specs.Commands.{shape_of}
use Rattle.hrv_command_line.proofs.Growing.{command_added}
use Rattle.hrv_command_line.proofs.programs.with_row.Goals as goal

pub returns : goal.returns
returns c =
    command_added c.subcommand.result c.args.command c.in_ok-own.own (shape_of c.args.row.now) c.in_ok-own.ensures c.subcommand.ensures
