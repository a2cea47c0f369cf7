use Rattle.std.proofs.Common.{refl, arith}
use Rattle.halide_pipeline.specs.declared.expressions.Variable.{Variable}
use Rattle.halide_pipeline.specs.declared.expressions.Variable.TheVariants as variables
use Rattle.bounds_inlining.specs.Inlining.{arguments}
use Rattle.bounds_inlining.specs.inner.Summing.{Same}
use Rattle.bounds_inlining.proofs.Counting.{counts_through}
use Rattle.bounds_inlining.proofs.counts.nodes.Goals as goal

ones : (v : Variable) → Same (arguments 1 1 1 v) 1
ones variables.FirstArgument = refl
ones variables.SecondArgument = refl
ones variables.FirstReduction = refl
ones variables.SecondReduction = refl

pub returns : goal.returns
returns c = λ flags funcs known.
    let s = c.sum_of-sum.ensures 1 1 in
    let t = counts_through flags funcs c.args.calls.now known (arguments 1 1 1) (λ v. 1) ones c.args.expr.now in
    omega (arith, s, t, c.saturating_add.ensures, c.saturating_add-2.ensures)
