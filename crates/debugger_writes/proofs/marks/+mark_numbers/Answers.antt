use Rattle.debugger_writes.proofs.Marking.{none_covered, numbers_covered}
use Rattle.debugger_writes.proofs.marks.+mark_numbers.Goals as goal

pub returns-in_default-clause-covers : goal.returns-in_default-clause-covers
returns-in_default-clause-covers t c = none_covered c.args.written.now c.args.width c.args.addresses.now c.in_default.len_below

pub returns-in-len1-up-clause-covers : goal.returns-in-len1-up-clause-covers
returns-in-len1-up-clause-covers t c =
    numbers_covered c.args.width c.args.addresses.now c.mark_number.new.written c.mark_numbers.new.written c.in-len1-up.len_at_least
    c.mark_numbers.ensures.marked
    c.mark_number.ensures.covers c.mark_numbers.ensures.covers
