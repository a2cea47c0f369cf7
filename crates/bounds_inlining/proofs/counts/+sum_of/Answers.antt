use Rattle.std.proofs.Common.{◌≡◌, ℕ, ◌+◌, None, Some, sym, ap, ◌∙◌, arith}
use Rattle.std.specs.Prelude.{min}
use Rattle.halide_pipeline.specs.declared.expressions.Expr.{Expr}
use Rattle.bounds_inlining.specs.Inlining.{arguments, answer, answered, through, counting}
use Rattle.bounds_inlining.specs.inner.Summing.{most, Same, sum_at, counted}
use Rattle.bounds_inlining.proofs.Capping.{both_same, four_same}
use Rattle.bounds_inlining.proofs.Steps.{of_binary, of_divide, of_remainder, of_select, of_call1, of_call2}
use Rattle.bounds_inlining.proofs.counts.+sum_of.Goals as goal

pub returns-in-Binary : goal.returns-in-Binary
unfolding counting
returns-in-Binary t c = λ x y.
    let of : Expr → ℕ = λ e. through counting (counted c.args.table.now) (arguments 1 x y) e in
    let is : of c.args.expr.now ≡ 1 + of c.in-Binary.a + of c.in-Binary.b = of_binary counting (counted c.args.table.now) (arguments 1 x y) c.args.expr.now
    c.in-Binary.field-0 c.in-Binary.a c.in-Binary.b c.in-Binary.is in
    let a : Same (sum_at c.sum_of-in-Binary.result x y) (of c.in-Binary.a) = c.sum_of-in-Binary.ensures x y
    ∙ ap (λ (e : Expr). min (of e) most) c.get-in-Binary.ensures in
    let b : Same (sum_at c.sum_of-in-Binary-2.result x y) (of c.in-Binary.b) = c.sum_of-in-Binary-2.ensures x y
    ∙ ap (λ (e : Expr). min (of e) most) c.get-in-Binary-2.ensures in
    both_same (sum_at c.number-in-Binary.result x y) 1 (sum_at c.sum_of-in-Binary.result x y) (sum_at c.sum_of-in-Binary-2.result x y) (of c.in-Binary.a)
    (of c.in-Binary.b) (sum_at c.plus-in-Binary.result x y) (sum_at c.plus-in-Binary-2.result x y)
    (c.number-in-Binary.ensures x y) (c.plus-in-Binary.ensures x y) (c.plus-in-Binary-2.ensures x y) a b
    ∙ ap (λ (k : ℕ). min k most) (sym is)

pub returns-in-Divide : goal.returns-in-Divide
unfolding counting
returns-in-Divide t c = λ x y.
    let of : Expr → ℕ = λ e. through counting (counted c.args.table.now) (arguments 1 x y) e in
    let is : of c.args.expr.now ≡ 2 + of c.in-Divide.a = of_divide counting (counted c.args.table.now) (arguments 1 x y) c.args.expr.now c.in-Divide.a
    c.in-Divide.field-1 c.in-Divide.is in
    let a : Same (sum_at c.sum_of.result x y) (of c.in-Divide.a) = c.sum_of.ensures x y ∙ ap (λ (e : Expr). min (of e) most) c.get.ensures in
    let n : Same (sum_at c.number-in-Divide.result x y) 2 = c.number-in-Divide.ensures x y in
    let p : Same (sum_at c.plus.result x y) (sum_at c.number-in-Divide.result x y + sum_at c.sum_of.result x y) = c.plus.ensures x y in
    omega (arith, is, a, n, p)

pub returns-in-Remainder : goal.returns-in-Remainder
unfolding counting
returns-in-Remainder t c = λ x y.
    let of : Expr → ℕ = λ e. through counting (counted c.args.table.now) (arguments 1 x y) e in
    let is : of c.args.expr.now ≡ 2 + of c.in-Remainder.a = of_remainder counting (counted c.args.table.now) (arguments 1 x y) c.args.expr.now c.in-Remainder.a
    c.in-Remainder.field-1 c.in-Remainder.is in
    let a : Same (sum_at c.sum_of-in-Remainder.result x y) (of c.in-Remainder.a) = c.sum_of-in-Remainder.ensures x y
    ∙ ap (λ (e : Expr). min (of e) most) c.get-in-Remainder.ensures in
    let n : Same (sum_at c.number-in-Remainder.result x y) 2 = c.number-in-Remainder.ensures x y in
    let p : Same (sum_at c.plus-in-Remainder.result x y) (sum_at c.number-in-Remainder.result x y + sum_at c.sum_of-in-Remainder.result x y) =
    c.plus-in-Remainder.ensures x y in
    omega (arith, is, a, n, p)

pub returns-in-Select : goal.returns-in-Select
unfolding counting
returns-in-Select t c = λ x y.
    let of : Expr → ℕ = λ e. through counting (counted c.args.table.now) (arguments 1 x y) e in
    let is : of c.args.expr.now ≡ 1 + of c.in-Select.c + of c.in-Select.a + of c.in-Select.b = of_select counting (counted c.args.table.now) (arguments 1 x y)
    c.args.expr.now c.in-Select.c c.in-Select.a c.in-Select.b c.in-Select.is in
    let d : Same (sum_at c.sum_of-in-Select.result x y) (of c.in-Select.c) = c.sum_of-in-Select.ensures x y
    ∙ ap (λ (e : Expr). min (of e) most) c.get-in-Select.ensures in
    let a : Same (sum_at c.sum_of-in-Select-2.result x y) (of c.in-Select.a) = c.sum_of-in-Select-2.ensures x y
    ∙ ap (λ (e : Expr). min (of e) most) c.get-in-Select-2.ensures in
    let b : Same (sum_at c.sum_of-in-Select-3.result x y) (of c.in-Select.b) = c.sum_of-in-Select-3.ensures x y
    ∙ ap (λ (e : Expr). min (of e) most) c.get-in-Select-3.ensures in
    four_same (sum_at c.number-in-Select.result x y) (sum_at c.sum_of-in-Select.result x y) (sum_at c.sum_of-in-Select-2.result x y)
    (sum_at c.sum_of-in-Select-3.result x y)
    (of c.in-Select.c) (of c.in-Select.a) (of c.in-Select.b) (sum_at c.plus-in-Select.result x y) (sum_at c.plus-in-Select-2.result x y)
    (sum_at c.plus-in-Select-3.result x y)
    (c.number-in-Select.ensures x y) (c.plus-in-Select.ensures x y) (c.plus-in-Select-2.ensures x y) (c.plus-in-Select-3.ensures x y) d a b
    ∙ ap (λ (k : ℕ). min k most) (sym is)

pub returns-in-Call1 : goal.returns-in-Call1
unfolding counting
returns-in-Call1 t c = λ x y.
    let of : Expr → ℕ = λ e. through counting (counted c.args.table.now) (arguments 1 x y) e in
    let is : of c.args.expr.now ≡ answered (1 + of c.in-Call1.x) (of c.in-Call1.x) None (answer (counted c.args.table.now) c.in-Call1.source) =
    of_call1 counting (counted c.args.table.now) (arguments 1 x y) c.args.expr.now c.in-Call1.source c.in-Call1.x c.in-Call1.is in
    let a : Same (sum_at c.sum_of-in-Call1.result x y) (of c.in-Call1.x) = c.sum_of-in-Call1.ensures x y
    ∙ ap (λ (e : Expr). min (of e) most) c.get-in-Call1.ensures in
    c.called1.ensures x y (of c.in-Call1.x) a ∙ ap (λ (k : ℕ). min k most) (sym is)

pub returns-in-Call2 : goal.returns-in-Call2
unfolding counting
returns-in-Call2 t c = λ x y.
    let of : Expr → ℕ = λ e. through counting (counted c.args.table.now) (arguments 1 x y) e in
    let is : of c.args.expr.now ≡ answered (1 + of c.in-Call2.x + of c.in-Call2.y) (of c.in-Call2.x) (Some (of c.in-Call2.y)) (answer (counted c.args.table.now)
    c.in-Call2.source) =
    of_call2 counting (counted c.args.table.now) (arguments 1 x y) c.args.expr.now c.in-Call2.source c.in-Call2.x c.in-Call2.y c.in-Call2.is in
    let a : Same (sum_at c.sum_of-in-Call2.result x y) (of c.in-Call2.x) = c.sum_of-in-Call2.ensures x y
    ∙ ap (λ (e : Expr). min (of e) most) c.get-in-Call2.ensures in
    let b : Same (sum_at c.sum_of-in-Call2-2.result x y) (of c.in-Call2.y) = c.sum_of-in-Call2-2.ensures x y
    ∙ ap (λ (e : Expr). min (of e) most) c.get-in-Call2-2.ensures in
    c.called2.ensures x y (of c.in-Call2.x) (of c.in-Call2.y) a b ∙ ap (λ (k : ℕ). min k most) (sym is)
