use Rattle.std.proofs.Common.{sym, subst}
use Rattle.multi_hart.specs.Run.{State}
use Rattle.multi_hart.proofs.Resting.{there}
use Rattle.debugger_writes.specs.Pages.{Marks}
use Rattle.debugger_writes.proofs.Marking.{store_marks}
use Rattle.debugger_writes.proofs.turns.turn_storing.Goals as goal

pub returns-clause-marks : goal.returns-clause-marks
returns-clause-marks c =
    let now = c.args.machine.now in
    let hart = c.args.hart in
    let means = rw (c.hart.ensures) at c.numbers_stored-stored.ensures in
    subst (λ (s : State). Marks now.memory s.memory c.args.written.now c.mark_stored.new.written) (sym c.turn.ensures.state)
    (store_marks now hart c.args.insn.now c.numbers_stored-stored.result c.args.written.now c.mark_stored.new.written (there now hart c.requires.there)
    c.requires.stores means
    c.mark_stored.ensures.marked c.mark_stored.ensures.covers)
