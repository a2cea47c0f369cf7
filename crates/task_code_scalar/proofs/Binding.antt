-- A split loop's value is a word.
use Rattle.std.proofs.Common.{ℕ, ◌^◌, ◌<◌, arith}
use Rattle.halide_pipeline.specs.Words as word
use Rattle.loop_ir.specs.declared.statements.Whole.{Whole}
use Rattle.loop_ir.specs.Counters.{Values}
use Rattle.loop_ir.specs.Running.{whole_value, at_most}

sum-below : (a b : ℕ) → word.add a b < 2 ^ 32
unfolding word.add
sum-below a b = omega arith

pub whole-small : (whole : Whole) (values : Values) → whole_value whole values < 2 ^ 32
whole-small whole values = sum-below (at_most whole.last (word.multiply (values whole.outer) whole.factor)) (values whole.inner)
