use Rattle.std.proofs.Common.{◌∙◌}
use Rattle.line_text.specs.Lines.{is_hexadecimal, hexadecimal_number}
use Rattle.hrv_engines.proofs.Numbers.{hexadecimal_last, no_number}
use Rattle.hrv_engines.proofs.commands.hexadecimal_of.Goals as goal

pub returns-then-hexadecimal_len-digits : goal.returns-then-hexadecimal_len-digits
returns-then-hexadecimal_len-digits c = no_number is_hexadecimal hexadecimal_number c.args.digits.now (rw c.hexadecimal_len.ensures.value at
    c.if-hexadecimal_len-digits.true)

pub returns : goal.returns
returns c =
    (rw (c.hexadecimal_digit.ensures, c.saturating_hexadecimal-number.ensures) at c.with_digit.ensures)
    ∙ hexadecimal_last c.args.digits.now c.in_ok-last.front.now c.in_ok-last.last.now c.in_ok-last.ensures.cases.0 (rw c.hexadecimal_len.ensures.value at
    c.if-hexadecimal_len-digits.false)
