-- Operations make words of words.
use Rattle.std.proofs.Common.{ℕ, ◌+◌, ◌*◌, ◌%◌, ◌^◌, ◌<◌, Bool, true, false, arith}
use Rattle.std.specs.Prelude.{if◌then◌else◌}
use Rattle.halide_pipeline.specs.declared.expressions.Operation.{Operation}
use Rattle.halide_pipeline.specs.declared.expressions.Operation.TheVariants as op
use Rattle.halide_pipeline.specs.Words as word

pub chosen-below : (t : Bool) (a b n : ℕ) → a < n → b < n → (if t then a else b) < n
chosen-below true a b n la lb = la
chosen-below false a b n la lb = lb

truth-below : (t : Bool) → word.truth t < 2 ^ 32
truth-below true = omega arith
truth-below false = omega arith

modulus-below : (a : ℕ) → a % 2 ^ 32 < 2 ^ 32
modulus-below a = omega arith

pub applied-below : (o : Operation) (x y : ℕ) → x < 2 ^ 32 → y < 2 ^ 32 → word.applied o x y < 2 ^ 32
unfolding word.add word.subtract word.multiply
applied-below op.Add x y lx ly = modulus-below (x + y)
applied-below op.Subtract x y lx ly = modulus-below _
applied-below op.Multiply x y lx ly = modulus-below (x * y)
applied-below op.Minimum x y lx ly = chosen-below (word.less y x) y x (2 ^ 32) ly lx
applied-below op.Maximum x y lx ly = chosen-below (word.less x y) y x (2 ^ 32) ly lx
applied-below op.Less x y lx ly = truth-below _
applied-below op.LessOrEqual x y lx ly = truth-below _
applied-below op.Greater x y lx ly = truth-below _
applied-below op.GreaterOrEqual x y lx ly = truth-below _
applied-below op.Equal x y lx ly = truth-below _
applied-below op.NotEqual x y lx ly = truth-below _
