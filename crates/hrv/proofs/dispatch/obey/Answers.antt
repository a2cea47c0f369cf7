use Rattle.std.proofs.Common.{refl, subst}
use Rattle.hrv_command_line.specs.CommandLine.{IsWithinLimits, asked_by}
use Rattle.hrv.proofs.dispatch.obey.Goals as goal

pub run-requires-sync-R : goal.run-requires-sync-R
run-requires-sync-R g c κs within =
    (c.type_bounds.sync-R, ((refl, tt), subst (λ invocation. IsWithinLimits (asked_by invocation)) c.in-Run.is c.requires))
