-- The place up to which Funcs are called, then the size of the expression.
use Rattle.halide_pipeline.specs.Expressions.{nodes}
use Rattle.bounds_inlining.proofs.Steps.{size}
use Rattle.lowering_expressions.proofs.lowering.+lowering.Given as goal

abbrev pub decreases-called : goal.decreases-called
decreases-called l = size l.callees.now.funcs.now l.callees.now.count 0

abbrev pub decreases-lowered_in : goal.decreases-lowered_in
decreases-lowered_in l = size l.callees.now.funcs.now l.callees.now.count (nodes l.expr.now)
