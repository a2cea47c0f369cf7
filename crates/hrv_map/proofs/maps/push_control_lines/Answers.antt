use Rattle.std.proofs.Common.{◌++◌, ◌∙◌, append-nil, ap, sym}
use Rattle.hrv_map.specs.Lines.{control_line}
use Rattle.hrv_map.specs.Maps.{control_lines}
use Rattle.hrv_map.proofs.Growing.{control_lines-more, control_lines-none, joined}
use Rattle.hrv_map.proofs.maps.push_control_lines.Goals as goal

pub loop-phase-init : goal.loop-phase-init
loop-phase-init c =
    sym (append-nil c.args.out.now.items) ∙ ap (λ text. c.args.out.now.items ++ text) (sym control_lines-none)

pub loop-phase-preserved : goal.loop-phase-preserved
loop-phase-preserved c =
    joined c.args.out.now.items c.loop-phase.out.items c.push_control_line.new.out.items (control_lines c.loop-phase.phase) (control_line c.loop-phase.phase) _
    c.loop-phase.invariant c.in_ok-push_control_line.ensures (control_lines-more c.loop-phase.phase)
