use Rattle.std.proofs.Common.{sym}
use Rattle.std.proofs.lemmas.List.{append-nil}
use Rattle.multi_hart.specs.Run.{hart_at}
use Rattle.gdb_session.specs.Texts.{vectors}
use Rattle.gdb_session.proofs.Lines.{vectors-more, joined}
use Rattle.gdb_session.proofs.registers.push_vectors.Goals as goal

pub loop-number-init : goal.loop-number-init
unfolding vectors
loop-number-init c = sym (append-nil c.args.out.now.items)

pub loop-number-preserved : goal.loop-number-preserved
loop-number-preserved c =
    let hart = hart_at c.args.machine.now c.args.hart in
    joined c.args.out.now.items c.loop-number.out.items c.push_vector.new.out.items (vectors hart c.loop-number.number) _ _ c.loop-number.invariant
    c.in_ok-push_vector.ensures (vectors-more hart c.loop-number.number)
