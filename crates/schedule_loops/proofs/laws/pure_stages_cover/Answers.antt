use Rattle.schedule_loops.proofs.Covering.{visited}
use Rattle.schedule_loops.proofs.laws.pure_stages_cover.Goals as goal

pub returns : goal.returns
returns c = λ func extents stage is fit x y there. visited func extents x y there stage is fit
