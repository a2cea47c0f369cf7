use Rattle.task_code_vector_loops.proofs.Aiming.{product-is}
use Rattle.task_code_vector_loops.proofs.distances.product.Goals as goal

pub returns : goal.returns
returns c = product-is c.args.e _ _ c.args.number c.in_ok-first.ensures c.in_ok-second.ensures
