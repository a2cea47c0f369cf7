use Rattle.std.proofs.Common.{◌∙◌}
use Rattle.line_text.specs.Lines.{is_digit, decimal_number}
use Rattle.hrv_engines.proofs.Numbers.{decimal_last, no_number}
use Rattle.hrv_engines.proofs.commands.decimal_of.Goals as goal

pub returns-then-digits_len-digits : goal.returns-then-digits_len-digits
returns-then-digits_len-digits c = no_number is_digit decimal_number c.args.digits.now (rw c.digits_len.ensures.value at c.if-digits_len-digits.true)

pub returns : goal.returns
returns c =
    (rw (c.saturating_sub.ensures, c.saturating_number-number.ensures) at c.with_digit.ensures)
    ∙ decimal_last c.args.digits.now c.in_ok-last.front.now c.in_ok-last.last.now c.in_ok-last.ensures.cases.0 (rw c.digits_len.ensures.value at
    c.if-digits_len-digits.false)
