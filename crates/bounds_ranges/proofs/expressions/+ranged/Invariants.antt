-- The place up to which Funcs are called, then the size of the expression.
use Rattle.halide_pipeline.specs.Expressions.{nodes}
use Rattle.bounds_inlining.proofs.Steps.{size}
use Rattle.bounds_ranges.proofs.expressions.+ranged.Given as goal

abbrev pub decreases-answered : goal.decreases-answered
decreases-answered l = size l.scope.now.funcs.now l.scope.now.count 0

abbrev pub decreases-ranged : goal.decreases-ranged
decreases-ranged l = size l.scope.now.funcs.now l.scope.now.count (nodes l.expr.now)
