use Rattle.std.proofs.Common.{◌∙◌, arith, sym}
use Rattle.race_reports.proofs.Passing.{clear_then, more_made, none_made, run_then}
use Rattle.race_reports.proofs.passes.pass_run.Goals as goal

pub turns-init : goal.turns-init
turns-init c = none_made c.args.but.now c.args.machine.now c.args.spans.now c.args.hart c.args.count c.requires.spans c.requires.clear

pub returns-in-Some-clause-state : goal.returns-in-Some-clause-state
returns-in-Some-clause-state c =
    c.pass_some-some.ensures.state
    ∙ run_then c.args.but.now c.args.machine.now c.turns.machine c.turns.spans c.args.hart c.turns.made c.args.count c.turns.invariant
    c.pass_some-some.result.made

pub returns-in-Some-clause-clear : goal.returns-in-Some-clause-clear
returns-in-Some-clause-clear c =
    clear_then c.args.but.now c.args.machine.now c.turns.machine c.turns.spans c.args.hart c.turns.made c.pass_some-some.result.made c.args.count
    c.turns.invariant c.pass_some-some.ensures.clear

pub turns-preserved : goal.turns-preserved
turns-preserved c =
    let within = c.pass_some-some.ensures.within in
    let test = c.turns-test.true in
    more_made c.args.but.now c.args.machine.now c.turns.machine c.pass_some-some.new.machine c.turns.spans c.pass_some-some.new.spans c.args.hart c.turns.made
    c.pass_some-some.result.made c.args.count c.turns.invariant (omega (arith, within, test)) c.pass_some-some.ensures.state c.pass_some-some.ensures.spans
    c.pass_some-some.ensures.clear (sym c.pass_some-some.ensures.race ∙ c.in_default.is)
