use Rattle.std.proofs.Common.{◌≡◌, ◌≤◌, ◌^◌, true, sym, ◌∙◌, arith, slice_index_or}
use Rattle.std.proofs.Math.Nat.{pow-le-pow_right}
use Rattle.std.proofs.lemmas.Bool.Decides.{nat_tests}
use Rattle.std.proofs.lemmas.List.Sums.{prefix_len_is}
use Rattle.line_text.specs.Lines.{is_digit}
use Rattle.picture.proofs.readings.short_number.Goals as goal

pub returns-then-not-is_digit-clause-len : goal.returns-then-not-is_digit-clause-len
returns-then-not-is_digit-clause-len c =
    sym (prefix_len_is is_digit c.args.text.now c.loop-len.len 0 (omega arith) c.loop-len.invariant.digits
    (λ within. sym c.is_digit.ensures ∙ c.if-not-is_digit.true))

pub overflow_add-number : goal.overflow_add-number
overflow_add-number c =
    let passed : is_digit (slice_index_or c.args.text.now c.loop-len.len 0) ≡ true = sym c.is_digit.ensures ∙ c.if-not-is_digit.false in
    let digit : slice_index_or c.args.text.now c.loop-len.len 0 ≤ 57 = grind (arith, nat_tests, passed) in
    let within : c.loop-len.len ≤ 8 = omega arith in
    let bound : 10 ^ c.loop-len.len ≤ 10 ^ 8 = pow-le-pow_right {n = 10} (omega arith) {i = c.loop-len.len} {j = 8} within in
    omega (arith, digit, bound)
