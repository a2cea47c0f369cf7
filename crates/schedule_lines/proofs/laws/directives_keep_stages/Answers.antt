use Rattle.schedule_lines.proofs.Steps.{directed_keeps}
use Rattle.schedule_lines.proofs.laws.directives_keep_stages.Goals as goal

pub returns : goal.returns
returns c = directed_keeps
