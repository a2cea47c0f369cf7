use Rattle.hrv_command_line.specs.Commands.{shape_of, with_command}
use Rattle.hrv_command_line.proofs.Fronts.{front_and_rest}
use Rattle.hrv_command_line.proofs.Growing.{all_grow}
use Rattle.hrv_command_line.proofs.programs.+with_rows.Goals as goal

pub returns-in_ok-grown-in-len1-up : goal.returns-in_ok-grown-in-len1-up
returns-in_ok-grown-in-len1-up t c =
    all_grow shape_of with_command _ c.args.command c.in_ok-grown-in-len1-up.grown c.args.rows.now _ _
    (front_and_rest c.args.rows.now _ c.in-len1-up.len_at_least) c.in_ok-grown-in-len1-up.ensures c.with_rows.ensures
