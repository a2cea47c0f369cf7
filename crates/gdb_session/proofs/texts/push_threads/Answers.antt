use Rattle.std.proofs.Common.{sym}
use Rattle.std.proofs.lemmas.List.{append-nil}
use Rattle.gdb_session.specs.Texts.{threads}
use Rattle.gdb_session.proofs.Lines.{joined, threads-more}
use Rattle.gdb_session.proofs.texts.push_threads.Goals as goal

pub loop-hart-init : goal.loop-hart-init
unfolding threads
loop-hart-init c = sym (append-nil c.args.out.now.items)

pub loop-hart-preserved : goal.loop-hart-preserved
loop-hart-preserved c =
    joined c.args.out.now.items c.loop-hart.out.items c.push_listed.new.out.items (threads c.loop-hart.hart) _ _ c.loop-hart.invariant
    c.in_ok-push_listed.ensures (threads-more c.loop-hart.hart)
