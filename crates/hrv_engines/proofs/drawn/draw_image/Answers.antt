use Rattle.std.proofs.Common.{◌≡◌, ◌++◌, List, ℕ, ap, ◌∙◌, subst}
use Rattle.std.specs.String.{string_bytes}
use Rattle.turn_log.specs.TurnLog.{LogState}
use Rattle.turn_log.specs.LogSpelling.{spelled}
use Rattle.drawn_runs.specs.Drawing.{RunsOut, drawn_run}
use Rattle.hrv_engines.proofs.DrawnRuns.{data-fits, drawn-is, is-after}
use Rattle.hrv_engines.proofs.Recordings.{end-is}
use Rattle.hrv_engines.proofs.Runs.{output-fits}
use Rattle.hrv_engines.proofs.drawn.draw_image.Goals as goal

pub dump-requires-clause-fits : goal.dump-requires-clause-fits
dump-requires-clause-fits c =
    let none = ap (λ (l : LogState). l.turns) c.new-log.ensures in
    let out = subst (λ (ts : List ℕ). RunsOut c.args.rules.limit c.in_ok-machine.machine ts c.draw_run.new.machine c.draw_run.new.log.turns) none
    c.in_ok-draw_run.ensures.runs_out
    in
    output-fits c.in_ok-read.read c.args.harts c.draw_run.new.log.turns c.draw_run.new.machine c.output-output.result
    (is-after c.in_ok-read.read c.args.harts c.args.rules.limit c.in_ok-machine.machine c.draw_run.new.machine c.draw_run.new.log
    c.in_ok-machine.ensures.opened out)
    c.output-output.ensures.value c.output-output.ensures.rules

pub dump-requires-clause-bytes : goal.dump-requires-clause-bytes
dump-requires-clause-bytes c =
    let none = ap (λ (l : LogState). l.turns) c.new-log.ensures in
    let out = subst (λ (ts : List ℕ). RunsOut c.args.rules.limit c.in_ok-machine.machine ts c.draw_run.new.machine c.draw_run.new.log.turns) none
    c.in_ok-draw_run.ensures.runs_out
    in
    data-fits c.in_ok-read.read c.args.harts c.draw_run.new.log.turns c.draw_run.new.machine
    (is-after c.in_ok-read.read c.args.harts c.args.rules.limit c.in_ok-machine.machine c.draw_run.new.machine c.draw_run.new.log
    c.in_ok-machine.ensures.opened out)
    c.output-output.ensures.rules

pub returns-clause-ok : goal.returns-clause-ok
returns-clause-ok c =
    let old = c.in_ok-machine.machine in
    let new = c.draw_run.new.machine in
    let log = c.draw_run.new.log in
    let first = c.new-log.ensures in
    let none = ap (λ (l : LogState). l.turns) first in
    let out = subst (λ (ts : List ℕ). RunsOut c.args.rules.limit old ts new log.turns) none c.in_ok-draw_run.ensures.runs_out in
    drawn-is c.in_ok-read.read c.args.harts c.args.rules c.write.new.out.items (string_bytes c.in_ok-text.text) c.args.image.items log old new
    c.output-output.result (rw (c.deref.ensures.value) at c.in_ok-read.ensures.exact) c.in_ok-machine.ensures.opened
    (c.in_ok-draw_run.ensures.harts ∙ ap (λ (l : LogState). l.harts) first) c.in_ok-draw_run.ensures.log out
    (c.in_ok-draw_run.ensures.turns ∙ ap (λ (ts : List ℕ). (drawn_run c.args.rules old ts).turns) none)
    (c.in_ok-write.ensures.ok ∙ ap (λ (bytes : List ℕ). bytes ++ spelled log) c.new-bytes.ensures.items) c.output-output.ensures.value c.in_ok-text.ensures

pub returns-clause-ended : goal.returns-clause-ended
returns-clause-ended c =
    let old = c.in_ok-machine.machine in
    let new = c.draw_run.new.machine in
    let log = c.draw_run.new.log in
    let first = c.new-log.ensures in
    let none = ap (λ (l : LogState). l.turns) first in
    let out = subst (λ (ts : List ℕ). RunsOut c.args.rules.limit old ts new log.turns) none c.in_ok-draw_run.ensures.runs_out in (
      c.in_ok-read.read,
      rw (c.deref.ensures.value) at c.in_ok-read.ensures.exact,
      end-is c.in_ok-read.read c.args.harts c.write.new.out.items log new _
          (is-after c.in_ok-read.read c.args.harts c.args.rules.limit old new log c.in_ok-machine.ensures.opened out)
          (c.in_ok-draw_run.ensures.harts ∙ ap (λ (l : LogState). l.harts) first) c.in_ok-draw_run.ensures.log
          (c.in_ok-write.ensures.ok ∙ ap (λ (bytes : List ℕ). bytes ++ spelled log) c.new-bytes.ensures.items) c.harts.ensures.value c.ending_of.ensures,
    )
