use Rattle.multi_hart.specs.Run.{run}
use Rattle.std.proofs.Common.{take}
use Rattle.race_reports.proofs.Told.{clear_at, no_race}
use Rattle.race_reports.proofs.laws.none_is_left_out.Goals as goal

pub returns : goal.returns
returns c = λ words begin turns none place within. no_race words (run begin (take place turns)) (clear_at words 0 begin turns none place within)
