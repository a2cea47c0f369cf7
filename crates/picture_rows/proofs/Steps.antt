-- Words that go up by 1 from place to place, and go on to do so when a word is added to each or taken from each.
use Rattle.std.proofs.Common.{◌≡◌, ℕ, arith}
use Rattle.halide_pipeline.specs.Words as word
use Rattle.halide_pipeline.specs.declared.expressions.Operation.{Operation}
use Rattle.halide_pipeline.specs.declared.expressions.Operation.TheVariants as op
use Rattle.picture_rows.specs.Rows.{IsRow, value_at}
use Rattle.picture_rows.specs.declared.rows.Row.{Row}
use Rattle.picture_rows.specs.declared.rows.Row.TheVariants as rows

adds : (first second at : ℕ) → word.add (word.add first second) at ≡ word.add (word.add first at) second
unfolding word.add
adds first second at = omega arith

subtracts : (first second at : ℕ) → word.add (word.subtract first second) at ≡ word.subtract (word.add first at) second
unfolding word.add word.subtract
subtracts first second at = omega arith

pub step-adds : (width first second made : ℕ) (operation : Operation) (row : Row) → row ≡ rows.Step first → operation ≡ op.Add → made ≡ word.add first second
    → IsRow width (λ at. word.applied operation (value_at row at) second) (rows.Step made)
step-adds width first second made operation row row_is operation_is made_is = record {
  len = tt;
  each = λ at less. rw (made_is, row_is, operation_is) (adds first second at);
}

pub step-subtracts : (width first second made : ℕ) (operation : Operation) (row : Row) → row ≡ rows.Step first → operation ≡ op.Subtract
    → made ≡ word.subtract first second
    → IsRow width (λ at. word.applied operation (value_at row at) second) (rows.Step made)
step-subtracts width first second made operation row row_is operation_is made_is = record {
  len = tt;
  each = λ at less. rw (made_is, row_is, operation_is) (subtracts first second at);
}
