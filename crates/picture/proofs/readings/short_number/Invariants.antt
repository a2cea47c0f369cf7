use Rattle.std.proofs.Common.{◌≡◌, ℕ, ◌<◌, ◌^◌, true, take, get_or}
use Rattle.line_text.specs.Lines.{decimal_number, is_digit}
use Rattle.picture.proofs.readings.short_number.Given as goal

abbrev pub invariant-loop-len : goal.invariant-loop-len
invariant-loop-len l = record {
  few : l.number < 10 ^ l.len;
  number : l.number ≡ decimal_number (take l.len l.text);
  digits : (k : ℕ) → k < l.len → is_digit (get_or l.text k 0) ≡ true;
}
