use Rattle.std.proofs.Common.{length}
use Rattle.halide_parser.specs.inner.Judging.{judging}
use Rattle.halide_parser.proofs.PassLoop.{Going}
use Rattle.halide_parser.proofs.passes.expression.Given as goal

abbrev pub invariant-steps : goal.invariant-steps
invariant-steps l = Going (judging l.reader l.scope) l.tokens l.state l.rest

abbrev pub decreases-steps : goal.decreases-steps
decreases-steps l = length l.rest
