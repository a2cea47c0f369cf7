use Rattle.std.proofs.Common.{◌≡◌, ◌+◌, ◌*◌, ◌-◌, length}
use Rattle.turn_log.specs.TurnLog.{most_turns}
use Rattle.drawn_runs.specs.Drawing.{bound_of, drawn_run}
use Rattle.drawn_runs.proofs.Draws.{IsDrawnSo, MadeSo}
use Rattle.drawn_runs.proofs.drawing.draw_run.Given as goal

-- what is left to draw leads to where the whole run does
abbrev pub invariant-draws : goal.invariant-draws
invariant-draws l = record {
  harts : l.log.harts ≡ l.fn.log.harts;
  drawn : IsDrawnSo l.rules.every (bound_of l.rules.limit l.fn.log.turns) (drawn_run l.rules l.fn.machine l.fn.log.turns)
      (record { machine = l.machine; turns = l.log.turns; generator = l.generator });
  made : MadeSo l.rules.limit l.fn.machine l.fn.log.turns l.machine l.log.turns;
}

abbrev pub decreases-draws : goal.decreases-draws
decreases-draws l = 8 * most_turns + 1 - length l.log.turns
