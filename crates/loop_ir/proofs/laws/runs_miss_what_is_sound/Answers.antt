use Rattle.loop_ir.proofs.Runs.{runs_miss}
use Rattle.loop_ir.proofs.laws.runs_miss_what_is_sound.Goals as goal

pub returns : goal.returns
returns c = runs_miss
