use Rattle.std.proofs.Common.{◌<◌, arith}
use Rattle.disassembler.proofs.Digits.{none_appended, one_appended}
use Rattle.disassembler.proofs.numbers.+push_digits.Goals as goal

pub returns-then-count-eq0 : goal.returns-then-count-eq0
returns-then-count-eq0 t c = none_appended _ _ _ c.if-count-eq0.true

pub returns : goal.returns
returns t c =
    let some : 0 < c.args.count = omega (arith, c.if-count-eq0.false) in
    one_appended _ _ _ c.args.count c.args.number some c.in_ok-push_digits.ensures c.in_ok-push_digit.ensures
