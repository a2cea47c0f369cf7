-- Words that corners come to.
use Rattle.std.proofs.Common.{◌≡◌, ℕ, ◌+◌, ◌*◌, ◌%◌, ◌^◌, List, [], ◌∷◌, ◌++◌, sym, ap, ◌∙◌, arith}
use Rattle.std.proofs.lemmas.Nat.{mul-mod_second}
use Rattle.std.proofs.Math.Nat.{mul-add, mul_comm}
use Rattle.halide_pipeline.specs.Words as word
use Rattle.bounds_ranges.specs.declared.ranges.Range.{Range}
use Rattle.bounds_ranges.specs.Ranges.{more_sum, less_sum}
use Rattle.loop_ir.specs.declared.expressions.Counter.{Counter}
use Rattle.loop_ir.specs.declared.expressions.Linear.{Linear}
use Rattle.loop_ir.specs.declared.expressions.Term.{Term}
use Rattle.loop_ir.specs.Counters.{Values}
use Rattle.loop_ir.specs.Expressions.{linear_value, sum_of}
use Rattle.lowering.specs.Corners.{first_of}
use Rattle.bounds.specs.Extents.{word_at}

pub stride_is : (more less : ℕ) → (word.subtract (more % 2 ^ 32) (less % 2 ^ 32) + less) % 2 ^ 32 ≡ more % 2 ^ 32
unfolding word.subtract
stride_is more less = omega arith

-- ---- sums

sum_last : (values : Values) (terms : List Term) (counter : Counter) (stride : ℕ) → sum_of values (terms ++ record { counter = counter; stride = stride } ∷ [])
    ≡ sum_of values terms + values counter * stride
sum_last values [] counter stride = omega arith
sum_last values (first ∷ terms) counter stride = omega (arith, sum_last values terms counter stride)

times_same : (v s n : ℕ) → s % 2 ^ 32 ≡ n % 2 ^ 32 → (v * s) % 2 ^ 32 ≡ (v * n) % 2 ^ 32
times_same v s n e = sym (mul-mod_second v s (2 ^ 32)) ∙ ap (λ (k : ℕ). (v * k) % 2 ^ 32) e ∙ mul-mod_second v n (2 ^ 32)

times_swapped : (a b : ℕ) → a * b ≡ b * a
times_swapped a b = mul_comm a b

pub term_more : (values : Values) (terms : List Term) (counter : Counter) (stride more less : ℕ) → (stride + less) % 2 ^ 32 ≡ more % 2 ^ 32
    → (sum_of values (terms ++ record { counter = counter; stride = stride } ∷ []) + less * values counter) % 2 ^ 32
    ≡ (sum_of values terms + more * values counter) % 2 ^ 32
term_more values terms counter stride more less e =
    let v = values counter in
    let same = times_same v (stride + less) more e in
    let parts : v * (stride + less) ≡ v * stride + v * less = mul-add v stride less in
    omega (arith, same, parts, sum_last values terms counter stride, times_swapped less v, times_swapped more v)

pub sums_follow : (old mid new more less more_rest less_rest : ℕ) → (mid + less) % 2 ^ 32 ≡ (old + more) % 2 ^ 32
    → (new + less_rest) % 2 ^ 32 ≡ (mid + more_rest) % 2 ^ 32
    → (new + (less + less_rest)) % 2 ^ 32 ≡ (old + (more + more_rest)) % 2 ^ 32
sums_follow old mid new more less more_rest less_rest e f = omega (arith, e, f)

pub begins_at : (values : Values) (terms : List Term) (range : Range) (iterations : List ℕ) (number : ℕ) → number ≡ word_at range.low
    → (sum_of values terms + less_sum range.base iterations) % 2 ^ 32 ≡ (sum_of values [] + more_sum range.base iterations) % 2 ^ 32
    → linear_value values (record { number = number; terms = terms }) ≡ first_of range iterations
unfolding linear_value word.add word.subtract
begins_at values terms range iterations number n e = omega (arith, n, e)

pub added_is : (values : Values) (a : ℕ) (second : Linear) → word.subtract a (word.subtract 0 (linear_value values second))
    ≡ word.add a (linear_value values second)
unfolding linear_value word.add word.subtract
added_is values a second = omega arith
