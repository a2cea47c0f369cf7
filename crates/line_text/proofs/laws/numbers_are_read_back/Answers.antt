use Rattle.line_text.proofs.Numerals.{decimal_digits, decimal_value}
use Rattle.line_text.proofs.laws.numbers_are_read_back.Goals as goal

pub returns : goal.returns
returns c = record { digits = decimal_digits; value = decimal_value }
