use Rattle.debugger_blame.proofs.WordsTouched.{numbers_marked}
use Rattle.debugger_blame.proofs.marks.+mark_numbers.Goals as goal

pub returns-in-len1-up : goal.returns-in-len1-up
returns-in-len1-up t c =
    numbers_marked c.args.first c.args.width c.args.addresses.now c.args.mark c.args.marks.now c.mark_number.new.marks c.mark_numbers.new.marks
    c.in-len1-up.len_at_least c.mark_number.auto.marks c.mark_number.ensures c.mark_numbers.ensures
