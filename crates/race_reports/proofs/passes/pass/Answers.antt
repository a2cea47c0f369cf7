use Rattle.std.proofs.Common.{◌≡◌, ◌∙◌, ◌+◌, ◌<◌, ℕ, arith, replicate, subst, sym}
use Rattle.std.proofs.lemmas.List.Elements.{recursion_from_All}
use Rattle.multi_hart.specs.Run.{run}
use Rattle.turn_log.proofs.RunAtLaws.{run_at-below, run_at-none, run_at-stands}
use Rattle.turn_log.proofs.RunLaws.{few_turns_all}
use Rattle.race_reports.specs.inner.Watching.{AreClear}
use Rattle.race_reports.proofs.Passing.{UpTo, none_at_all, race_told, run_on, stretch_passed}
use Rattle.race_reports.proofs.passes.pass.Goals as goal

pub pass_run-stretch-requires-clause-there : goal.pass_run-stretch-requires-clause-there
pass_run-stretch-requires-clause-there c =
    let log = c.args.log.now in
    let below = run_at-below log.harts log.turns c.runs.place c.in-Some-run_at.hart c.in-Some-run_at.count
    (recursion_from_All (λ (turn : ℕ). turn < log.harts) log.turns c.harts-harts.ensures.log.turns_below) (sym c.in-Some-run_at.ensures) in
    omega (arith, below, c.requires.harts, c.runs.invariant.shape.harts)

pub overflow_add-place : goal.overflow_add-place
overflow_add-place c =
    let few = few_turns_all c.args.log.now c.harts-harts.ensures.log in
    let within = (run_at-stands c.args.log.now.turns c.runs.place c.in-Some-run_at.hart c.in-Some-run_at.count (sym c.in-Some-run_at.ensures)).within in
    let made = c.pass_run-stretch.ensures.within in
    omega (arith, few, within, made)

pub returns-in-Some-race-clause-race : goal.returns-in-Some-race-clause-race
returns-in-Some-race-clause-race c =
    let turns = c.args.log.now.turns in
    let place = c.runs.place in
    let hart = c.in-Some-run_at.hart in
    let count = c.in-Some-run_at.count in
    let stand = run_at-stands turns place hart count (sym c.in-Some-run_at.ensures) in
    let made = c.pass_run-stretch.ensures in
    sym (race_told c.args.but.now c.args.machine.now c.runs.machine c.pass_run-stretch.new.machine c.runs.spans turns place hart count
    c.pass_run-stretch.result.made c.in-Some-race.turns c.runs.invariant stand made.within made.state made.clear (sym made.race ∙ c.in-Some-race.is))

pub returns-in-Some-race-clause-state : goal.returns-in-Some-race-clause-state
returns-in-Some-race-clause-state c =
    let turns = c.args.log.now.turns in
    let place = c.runs.place in
    let hart = c.in-Some-run_at.hart in
    let count = c.in-Some-run_at.count in
    let stand = run_at-stands turns place hart count (sym c.in-Some-run_at.ensures) in
    let made = c.pass_run-stretch.ensures in
    made.state ∙ run_on c.args.but.now c.args.machine.now c.runs.machine c.runs.spans turns place hart count c.pass_run-stretch.result.made c.runs.invariant
    stand made.within

pub runs-smaller : goal.runs-smaller
runs-smaller c =
    let stand = run_at-stands c.args.log.now.turns c.runs.place c.in-Some-run_at.hart c.in-Some-run_at.count (sym c.in-Some-run_at.ensures) in
    let some = stand.some in
    let within = stand.within in
    let all = c.pass_run-stretch.ensures.all c.in_default-race.is in
    omega (arith, some, within, all)

pub runs-preserved : goal.runs-preserved
runs-preserved c =
    let but = c.args.but.now in
    let start = c.args.machine.now in
    let now = c.runs.machine in
    let after = c.pass_run-stretch.new.machine in
    let spans = c.pass_run-stretch.new.spans in
    let turns = c.args.log.now.turns in
    let place = c.runs.place in
    let hart = c.in-Some-run_at.hart in
    let count = c.in-Some-run_at.count in
    let stand = run_at-stands turns place hart count (sym c.in-Some-run_at.ensures) in
    let made = c.pass_run-stretch.ensures in
    let all : c.pass_run-stretch.result.made ≡ count = made.all c.in_default-race.is in
    subst (λ (n : ℕ). UpTo but start after spans turns (place + n)) (sym all)
    (stretch_passed but start now after c.runs.spans spans turns place hart count c.runs.invariant stand
    (subst (λ (n : ℕ). after ≡ run now (replicate n hart)) all made.state) made.spans (subst (λ (n : ℕ). AreClear but now hart n) all made.clear)
    (sym made.race ∙ c.in_default-race.is))

pub returns-clause-race : goal.returns-clause-race
returns-clause-race c =
    let turns = c.args.log.now.turns in
    sym (none_at_all c.args.but.now c.args.machine.now c.runs.machine c.runs.spans turns c.runs.place c.runs.invariant
    (run_at-none turns c.runs.place (sym c.in_default-run_at.ensures)))
