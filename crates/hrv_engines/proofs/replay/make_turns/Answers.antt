use Rattle.std.proofs.Common.{ℕ, ◌+◌, ◌<◌, drop, replicate, sym, ap, ◌∙◌, arith}
use Rattle.std.proofs.Math.ListN.{drop_of_length-le}
use Rattle.std.proofs.lemmas.List.Elements.{recursion_from_All}
use Rattle.multi_hart.specs.Run.{State, run}
use Rattle.multi_hart.proofs.Resting.{run-append}
use Rattle.multi_hart.proofs.TurnByTurn.{shape-then}
use Rattle.turn_log.proofs.RunAtLaws.{run_at-stands, run_at-below, run_at-none}
use Rattle.turn_log.proofs.RunLaws.{few_turns_all}
use Rattle.hrv_engines.proofs.replay.make_turns.Goals as goal

pub run_same-requires-clause-there : goal.run_same-requires-clause-there
run_same-requires-clause-there c =
    let log = c.args.log.now in
    let below = run_at-below log.harts log.turns c.loop-hart.place c.in-Some.hart c.in-Some.count (recursion_from_All (λ (turn : ℕ). turn < log.harts) log.turns
    c.requires.log.turns_below) (sym c.in-Some.ensures) in
    omega (arith, below, c.requires.harts, c.loop-hart.invariant.shape.harts)

pub run_same-requires-clause-some : goal.run_same-requires-clause-some
run_same-requires-clause-some c = (run_at-stands c.args.log.now.turns c.loop-hart.place c.in-Some.hart c.in-Some.count (sym c.in-Some.ensures)).some

pub overflow_add-place : goal.overflow_add-place
overflow_add-place c =
    let few = few_turns_all c.args.log.now c.requires.log in
    let within = (run_at-stands c.args.log.now.turns c.loop-hart.place c.in-Some.hart c.in-Some.count (sym c.in-Some.ensures)).within in
    omega (arith, few, within)

pub loop-hart-preserved : goal.loop-hart-preserved
loop-hart-preserved c =
    let turns = c.args.log.now.turns in
    let place = c.loop-hart.place in
    let hart = c.in-Some.hart in
    let count = c.in-Some.count in
    let machine = c.loop-hart.machine in
    let stand = run_at-stands turns place hart count (sym c.in-Some.ensures) in
    let left = drop (place + count) turns in
    record {
      state = ap (λ (m : State). run m left) c.run_same.ensures.state ∙ sym (run-append machine (replicate count hart) left)
          ∙ ap (run machine) (sym stand.parts) ∙ c.loop-hart.invariant.state;
      within = stand.within;
      shape = shape-then c.args.machine.now machine _ c.loop-hart.invariant.shape c.run_same.ensures.shape;
    }

pub loop-hart-smaller : goal.loop-hart-smaller
loop-hart-smaller c =
    let stand = run_at-stands c.args.log.now.turns c.loop-hart.place c.in-Some.hart c.in-Some.count (sym c.in-Some.ensures) in
    let some = stand.some in
    let within = stand.within in
    omega (arith, some, within)

pub returns-clause-state : goal.returns-clause-state
returns-clause-state c =
    let turns = c.args.log.now.turns in
    let behind = run_at-none turns c.loop-hart.place (sym c.in_default.ensures) in
    sym (ap (run c.loop-hart.machine) (drop_of_length-le turns behind)) ∙ c.loop-hart.invariant.state
