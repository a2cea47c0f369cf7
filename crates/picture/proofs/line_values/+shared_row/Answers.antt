use Rattle.std.proofs.Common.{◌≡◌, ◌+◌, ◌*◌, ◌<◌, ap, refl, arith}
use Rattle.halide_pipeline.specs.Expressions.{nodes}
use Rattle.picture.specs.inner.Lines.{line_point, reads_with, value_along}
use Rattle.picture.proofs.AlongLines.{answer-long, of-row, value-variable}
use Rattle.picture.proofs.Measures.{nodes-Binary, nodes-Divide, nodes-Remainder, nodes-Select, nodes-Call1, nodes-Call2}
use Rattle.picture.proofs.line_values.+shared_row.Goals as goal

-- ---- each kind

pub shared_row-returns-in-Variable-clause-len : goal.shared_row-returns-in-Variable-clause-len
shared_row-returns-in-Variable-clause-len t c = (c.variable_along.ensures c.args.line.width).len

pub shared_row-returns-in-Variable-clause-values : goal.shared_row-returns-in-Variable-clause-values
shared_row-returns-in-Variable-clause-values t c =
    of-row c.args.line _ _ _ (c.variable_along.ensures c.args.line.width) (λ plane at. value-variable (reads_with c.args.scene.now c.args.func_index plane)
    (line_point c.args.line.along c.args.line.start at) c.args.expr.now c.in-Variable.own_variable c.in-Variable.is)

pub shared_row-shared_binary-requires : goal.shared_row-shared_binary-requires
shared_row-shared_binary-requires t c =
    let n = nodes-Binary c.args.expr.now c.in-Binary.operation c.in-Binary.a c.in-Binary.b c.in-Binary.is in
    let of_a : nodes c.get.result.now ≡ nodes c.in-Binary.a = ap nodes c.get.ensures in
    let of_b : nodes c.get-in-Binary.result.now ≡ nodes c.in-Binary.b = ap nodes c.get-in-Binary.ensures in
    let less : (nodes c.get.result.now + nodes c.get-in-Binary.result.now) * 2 + 1 < nodes c.args.expr.now * 2 = omega (arith, n, of_a, of_b) in
    (rw c.decreases at less, (c.requires.tables, (c.requires.line, c.requires.narrow)))

pub shared_row-shared_divide-requires : goal.shared_row-shared_divide-requires
shared_row-shared_divide-requires t c =
    let n = nodes-Divide c.args.expr.now c.in-Divide.a c.in-Divide.divisor c.in-Divide.is in
    let of_a : nodes c.get-in-Divide.result.now ≡ nodes c.in-Divide.a = ap nodes c.get-in-Divide.ensures in
    let less : nodes c.get-in-Divide.result.now * 2 + 1 < nodes c.args.expr.now * 2 = omega (arith, n, of_a) in
    (rw c.decreases at less, (c.requires.tables, (c.requires.line, c.requires.narrow)))

pub shared_row-shared_remainder-requires : goal.shared_row-shared_remainder-requires
shared_row-shared_remainder-requires t c =
    let n = nodes-Remainder c.args.expr.now c.in-Remainder.a c.in-Remainder.divisor c.in-Remainder.is in
    let of_a : nodes c.get-in-Remainder.result.now ≡ nodes c.in-Remainder.a = ap nodes c.get-in-Remainder.ensures in
    let less : nodes c.get-in-Remainder.result.now * 2 + 1 < nodes c.args.expr.now * 2 = omega (arith, n, of_a) in
    (rw c.decreases at less, (c.requires.tables, (c.requires.line, c.requires.narrow)))

pub shared_row-shared_select-requires : goal.shared_row-shared_select-requires
shared_row-shared_select-requires t c =
    let n = nodes-Select c.args.expr.now c.in-Select.condition c.in-Select.a c.in-Select.b c.in-Select.is in
    let of_condition : nodes c.get-in-Select.result.now ≡ nodes c.in-Select.condition = ap nodes c.get-in-Select.ensures in
    let of_a : nodes c.get-in-Select-2.result.now ≡ nodes c.in-Select.a = ap nodes c.get-in-Select-2.ensures in
    let of_b : nodes c.get-in-Select-3.result.now ≡ nodes c.in-Select.b = ap nodes c.get-in-Select-3.ensures in
    let less : (nodes c.get-in-Select.result.now + nodes c.get-in-Select-2.result.now + nodes c.get-in-Select-3.result.now) * 2 + 1 < nodes c.args.expr.now * 2 = omega (arith, n, of_condition, of_a, of_b) in
    (rw c.decreases at less, (c.requires.tables, (c.requires.line, c.requires.narrow)))

pub shared_row-shared_call1-requires : goal.shared_row-shared_call1-requires
shared_row-shared_call1-requires t c =
    let n = nodes-Call1 c.args.expr.now c.in-Call1.source c.in-Call1.x c.in-Call1.is in
    let of_x : nodes c.get-in-Call1.result.now ≡ nodes c.in-Call1.x = ap nodes c.get-in-Call1.ensures in
    let less : nodes c.get-in-Call1.result.now * 2 + 1 < nodes c.args.expr.now * 2 = omega (arith, n, of_x) in
    (rw c.decreases at less, (c.requires.tables, (c.requires.line, c.requires.narrow)))

pub shared_row-shared_call2-requires : goal.shared_row-shared_call2-requires
shared_row-shared_call2-requires t c =
    let n = nodes-Call2 c.args.expr.now c.in-Call2.source c.in-Call2.x c.in-Call2.y c.in-Call2.is in
    let of_x : nodes c.get-in-Call2.result.now ≡ nodes c.in-Call2.x = ap nodes c.get-in-Call2.ensures in
    let of_y : nodes c.get-in-Call2-2.result.now ≡ nodes c.in-Call2.y = ap nodes c.get-in-Call2-2.ensures in
    let less : (nodes c.get-in-Call2.result.now + nodes c.get-in-Call2-2.result.now) * 2 + 1 < nodes c.args.expr.now * 2 = omega (arith, n, of_x, of_y) in
    (rw c.decreases at less, (c.requires.tables, (c.requires.line, c.requires.narrow)))

-- ---- shared_binary

pub shared_binary-returns-clause-len : goal.shared_binary-returns-clause-len
shared_binary-returns-clause-len t c = answer-long c.args.line _ c.shared_both.result (c.shared_both.ensures
    (value_along c.args.scene.now c.args.func_index c.args.line c.args.a.now) (value_along c.args.scene.now c.args.func_index c.args.line c.args.b.now) c.in_ok-a.ensures.values c.in_ok-b.ensures.values)

pub shared_binary-returns-clause-values : goal.shared_binary-returns-clause-values
shared_binary-returns-clause-values t c = c.shared_both.ensures
    (value_along c.args.scene.now c.args.func_index c.args.line c.args.a.now) (value_along c.args.scene.now c.args.func_index c.args.line c.args.b.now) c.in_ok-a.ensures.values c.in_ok-b.ensures.values

-- ---- shared_divide

pub shared_divide-returns-clause-len : goal.shared_divide-returns-clause-len
shared_divide-returns-clause-len t c = answer-long c.args.line _ c.shared_quotients.result (c.shared_quotients.ensures
    (value_along c.args.scene.now c.args.func_index c.args.line c.args.a.now) c.in_ok-a.ensures.values)

-- ---- shared_remainder

pub shared_remainder-returns-clause-len : goal.shared_remainder-returns-clause-len
shared_remainder-returns-clause-len t c = answer-long c.args.line _ c.shared_remainders.result (c.shared_remainders.ensures
    (value_along c.args.scene.now c.args.func_index c.args.line c.args.a.now) c.in_ok-a.ensures.values)

-- ---- shared_select

pub shared_select-returns-clause-len : goal.shared_select-returns-clause-len
shared_select-returns-clause-len t c = answer-long c.args.line _ c.shared_choice.result (c.shared_choice.ensures
    (value_along c.args.scene.now c.args.func_index c.args.line c.args.condition.now) (value_along c.args.scene.now c.args.func_index c.args.line c.args.a.now) (value_along c.args.scene.now c.args.func_index c.args.line c.args.b.now) c.in_ok-condition.ensures.values c.in_ok-a.ensures.values c.in_ok-b.ensures.values)

pub shared_select-returns-clause-values : goal.shared_select-returns-clause-values
shared_select-returns-clause-values t c = c.shared_choice.ensures
    (value_along c.args.scene.now c.args.func_index c.args.line c.args.condition.now) (value_along c.args.scene.now c.args.func_index c.args.line c.args.a.now) (value_along c.args.scene.now c.args.func_index c.args.line c.args.b.now) c.in_ok-condition.ensures.values c.in_ok-a.ensures.values c.in_ok-b.ensures.values

-- ---- shared_call1

pub shared_call1-returns-clause-len : goal.shared_call1-returns-clause-len
shared_call1-returns-clause-len t c = answer-long c.args.line _ c.shared_read.result (c.shared_read.ensures
    (value_along c.args.scene.now c.args.func_index c.args.line c.args.x.now) (λ plane at. 0) c.in_ok-x.ensures.values (record { len = tt; each = λ plane fits at less. refl }))

pub shared_call1-returns-clause-values : goal.shared_call1-returns-clause-values
shared_call1-returns-clause-values t c = c.shared_read.ensures
    (value_along c.args.scene.now c.args.func_index c.args.line c.args.x.now) (λ plane at. 0) c.in_ok-x.ensures.values (record { len = tt; each = λ plane fits at less. refl })

-- ---- shared_call2

pub shared_call2-returns-clause-len : goal.shared_call2-returns-clause-len
shared_call2-returns-clause-len t c = answer-long c.args.line _ c.shared_read.result (c.shared_read.ensures
    (value_along c.args.scene.now c.args.func_index c.args.line c.args.x.now) (value_along c.args.scene.now c.args.func_index c.args.line c.args.y.now) c.in_ok-x.ensures.values c.in_ok-y.ensures.values)

pub shared_call2-returns-clause-values : goal.shared_call2-returns-clause-values
shared_call2-returns-clause-values t c = c.shared_read.ensures
    (value_along c.args.scene.now c.args.func_index c.args.line c.args.x.now) (value_along c.args.scene.now c.args.func_index c.args.line c.args.y.now) c.in_ok-x.ensures.values c.in_ok-y.ensures.values
