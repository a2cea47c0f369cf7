use Rattle.std.proofs.Common.{◌∙◌, ℕ, arith, subst, sym}
use Rattle.std.specs.Prelude.{slice_index}
use Rattle.multi_hart.specs.Run.{KeepsShape}
use Rattle.multi_hart.proofs.TurnByTurn.{shape-turn}
use Rattle.run_reports.proofs.Standing.{IsWay, none_added, runs_then, way_added}
use Rattle.run_reports.proofs.profiles.count_some.Goals as goal

pub returns-in_default-clause-shape : goal.returns-in_default-clause-shape
returns-in_default-clause-shape c = subst (KeepsShape c.args.machine.now) (sym c.turn.ensures.state) (shape-turn c.args.machine.now c.args.hart)

pub returns-in_default-clause-added : goal.returns-in_default-clause-added
returns-in_default-clause-added c =
    let words = c.requires.straight.as_many in
    none_added c.args.machine.now c.args.hart c.args.counts.now c.requires.runs
    (λ place below is. c.place_of.ensures.outside c.in_default.is place (omega (arith, below, words, c.requires.as_many)) (c.pc.ensures ∙ is))

pub returns-clause-added : goal.returns-clause-added
returns-clause-added c =
    let now = c.args.machine.now in
    let hart = c.args.hart in
    let place = c.in-Some.place in
    let count : ℕ = slice_index c.args.straights.now place in
    let made = c.step_on-made.result.made in
    let stretch = c.step_on-made.ensures.stretch in
    let words = c.requires.straight.as_many in
    let there = c.in-Some.ensures.within in
    let least = c.min.ensures in
    let wide = c.from-straight.ensures in
    let few = stretch.few in
    let way : IsWay now hart place count made = record {
      below = c.requires.there;
      few = c.requires.few;
      runs = c.requires.runs;
      stands = sym c.pc.ensures ∙ c.in-Some.ensures.stands;
      straight = c.requires.straight.each place (omega (arith, words, there));
      within = omega (arith, few, least, wide);
      steps = stretch.steps;
    } in
    way_added now hart place count made c.args.counts.now c.raise.new.counts way c.raise.ensures

pub returns-clause-runs : goal.returns-clause-runs
returns-clause-runs c =
    runs_then c.args.machine.now c.args.hart c.step_on-made.result.made c.requires.there c.requires.runs c.step_on-made.ensures.stretch.steps
