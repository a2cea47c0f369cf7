use Rattle.hrv_command_line.specs.Commands.{value_of, with_value}
use Rattle.hrv_command_line.proofs.Fronts.{front_and_rest}
use Rattle.hrv_command_line.proofs.Growing.{all_grow}
use Rattle.hrv_command_line.proofs.programs.+with_values.Goals as goal

pub returns-in_ok-grown-in-len1-up : goal.returns-in_ok-grown-in-len1-up
returns-in_ok-grown-in-len1-up t c =
    all_grow value_of with_value _ c.args.command c.in_ok-grown-in-len1-up.grown c.args.values.now _ _
    (front_and_rest c.args.values.now _ c.in-len1-up.len_at_least) c.in_ok-grown-in-len1-up.ensures c.with_values.ensures
