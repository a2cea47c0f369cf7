use Rattle.std.proofs.Common.{refl, sym, ap, ap₂, ◌∙◌}
use Rattle.hrv_engines.specs.Records.{trap_below, trap_or}
use Rattle.hrv_engines.proofs.TrapsBelow.{trap_below-more}
use Rattle.hrv_engines.proofs.endings.first_trap.Goals as goal

pub loop-hart-init : goal.loop-hart-init
unfolding trap_below
loop-hart-init c = refl

pub loop-hart-preserved : goal.loop-hart-preserved
loop-hart-preserved c =
    c.trap_or-found.ensures ∙ ap₂ trap_or c.loop-hart.invariant c.status.ensures ∙ sym (trap_below-more c.args.machine.now c.loop-hart.hart)
