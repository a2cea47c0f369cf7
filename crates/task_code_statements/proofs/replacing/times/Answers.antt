use Rattle.std.proofs.Common.{◌∙◌}
use Rattle.task_code_statements.proofs.Standing.{times-more}
use Rattle.task_code_statements.proofs.replacing.times.Goals as goal

pub returns : goal.returns
returns c =
    times-more c.args.replacement.now c.args.stride c.in_ok-first.first c.in_ok-second.second (c.in_ok-first.ensures ∙ c.in_ok-e.ensures) c.in_ok-second.ensures
