use Rattle.std.proofs.Common.{sym}
use Rattle.std.proofs.lemmas.List.{append-nil}
use Rattle.multi_hart.specs.Run.{hart_at}
use Rattle.gdb_session.specs.Texts.{integers}
use Rattle.gdb_session.proofs.Lines.{integers-more, joined}
use Rattle.gdb_session.proofs.registers.push_integers.Goals as goal

pub loop-number-init : goal.loop-number-init
unfolding integers
loop-number-init c = sym (append-nil c.args.out.now.items)

pub loop-number-preserved : goal.loop-number-preserved
loop-number-preserved c =
    let hart = hart_at c.args.machine.now c.args.hart in
    joined c.args.out.now.items c.loop-number.out.items c.push_integer.new.out.items (integers hart c.loop-number.number) _ _ c.loop-number.invariant
    c.in_ok-push_integer.ensures (integers-more hart c.loop-number.number)
