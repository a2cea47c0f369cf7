use Rattle.hrv_engines.proofs.PrintedPictures.{printed_ends}
use Rattle.hrv_engines.proofs.laws.printed_pictures_are_drawn.Goals as goal

pub returns-clause-replayed : goal.returns-clause-replayed
returns-clause-replayed c = printed_ends

pub returns-clause-ran : goal.returns-clause-ran
returns-clause-ran c alloc texts image_bytes log_bytes text image log old limit compiled ends run =
    printed_ends alloc texts image_bytes log_bytes text image log compiled ends run.is_replay
