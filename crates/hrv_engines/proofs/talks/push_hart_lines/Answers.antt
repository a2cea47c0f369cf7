use Rattle.std.proofs.Common.{sym}
use Rattle.std.specs.String.{string_bytes}
use Rattle.std.proofs.lemmas.List.{append-nil}
use Rattle.debugger.specs.Places.{state_here}
use Rattle.hrv_engines.specs.Talk.{hart_lines}
use Rattle.hrv_engines.proofs.Printing.{hart_lines-more, joined}
use Rattle.hrv_engines.proofs.talks.push_hart_lines.Goals as goal

pub loop-hart-init : goal.loop-hart-init
unfolding hart_lines
loop-hart-init c = sym (append-nil (string_bytes c.args.text.now))

pub loop-hart-preserved : goal.loop-hart-preserved
loop-hart-preserved c =
    let state = state_here c.args.session.now.state in
    joined (string_bytes c.args.text.now) (string_bytes c.loop-hart.text) (string_bytes c.push_hart_line.new.text) (hart_lines state c.loop-hart.hart)
    _ _ c.loop-hart.invariant c.in_ok-push_hart_line.ensures
    (hart_lines-more state c.loop-hart.hart)
