use Rattle.loop_ir.proofs.Runs.{others_store_in_no_run}
use Rattle.loop_ir.proofs.laws.others_store_in_no_run.Goals as goal

pub returns : goal.returns
returns c = others_store_in_no_run
