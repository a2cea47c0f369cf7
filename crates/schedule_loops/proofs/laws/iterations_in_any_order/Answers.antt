use Rattle.schedule_loops.proofs.Parallel.{in_any_order}
use Rattle.schedule_loops.proofs.laws.iterations_in_any_order.Goals as goal

pub returns : goal.returns
returns c = λ func update extents stage is legal order is_order x y. in_any_order func update extents stage is legal order is_order x y
