use Rattle.std.proofs.Common.{◌≡◌, ◌<◌, take, replicate, refl, sym, ap, ◌∙◌, arith}
use Rattle.std.specs.Prelude.{slice_index}
use Rattle.std.proofs.lemmas.List.{length-take, take_all}
use Rattle.multi_hart.specs.Run.{run}
use Rattle.multi_hart.proofs.Resting.{run-append}
use Rattle.multi_hart.proofs.TurnByTurn.{shape-then}
use Rattle.turn_log.proofs.RunAtLaws.{run_at-none}
use Rattle.turn_log.proofs.RunLaws.{few_turns_all}
use Rattle.shared_machine.specs.Log.{tally_from}
use Rattle.shared_machine.specs.Tallies.{each}
use Rattle.shared_machine.proofs.Eight.{each-index}
use Rattle.shared_machine.proofs.MadeAgain.{next-is, take-run, tallies-more, tally-few, tally-more-few}
use Rattle.shared_machine.proofs.replaying.replay.Goals as goal

pub replay_run-requires-clause-below : goal.replay_run-requires-clause-below
replay_run-requires-clause-below c =
    let next = next-is c.args.log.now c.loop-hart.place c.in-Some.hart c.in-Some.turns c.requires.log (sym c.in-Some.ensures) in
    let below = next.1 in omega (arith, below, c.requires.harts, c.loop-hart.invariant.shape.harts)

pub replay_run-requires-clause-few : goal.replay_run-requires-clause-few
replay_run-requires-clause-few c =
    let next = next-is c.args.log.now c.loop-hart.place c.in-Some.hart c.in-Some.turns c.requires.log (sym c.in-Some.ensures) in
    let within = next.0.within in let few = few_turns_all c.args.log.now c.requires.log in omega (arith, within, few)

pub offset_bounds-tallies-hart : goal.offset_bounds-tallies-hart
offset_bounds-tallies-hart c =
    let next = next-is c.args.log.now c.loop-hart.place c.in-Some.hart c.in-Some.turns c.requires.log (sym c.in-Some.ensures) in
    let below = next.1 in let few = c.requires.log.few_harts in omega (arith, below, few)

pub bounds-tallies-hart : goal.bounds-tallies-hart
bounds-tallies-hart c =
    let next = next-is c.args.log.now c.loop-hart.place c.in-Some.hart c.in-Some.turns c.requires.log (sym c.in-Some.ensures) in
    let below = next.1 in let few = c.requires.log.few_harts in omega (arith, below, few)

pub bounds-tallies-hart-in-Some : goal.bounds-tallies-hart-in-Some
bounds-tallies-hart-in-Some c =
    let next = next-is c.args.log.now c.loop-hart.place c.in-Some.hart c.in-Some.turns c.requires.log (sym c.in-Some.ensures) in
    let below = next.1 in let few = c.requires.log.few_harts in omega (arith, below, few)

pub overflow_add-tallies : goal.overflow_add-tallies
overflow_add-tallies c =
    let old = c.args.machine.now in
    let turns = c.args.log.now.turns in
    let place = c.loop-hart.place in
    let hart = c.in-Some.hart in
    let next = next-is c.args.log.now place hart c.in-Some.turns c.requires.log (sym c.in-Some.ensures) in
    let below : hart < 8 = (let b = next.1 in let f = c.requires.log.few_harts in omega (arith, b, f)) in
    let within = next.0.within in
    let all = few_turns_all c.args.log.now c.requires.log in
    let now : slice_index c.loop-hart.tallies hart ≡ tally_from old (take place turns) hart = ap (λ xs. slice_index xs hart) c.loop-hart.invariant.tallies
    ∙ each-index (tally_from old (take place turns)) hart below in
    let few = tally-few old (take place turns) hart in
    let long = length-take place turns in
    let sum = c.replay_run.ensures.sum in
    let more = tally-more-few c.loop-hart.machine hart c.in-Some.turns in
    omega (arith, within, all, now, few, long, sum, more)

pub overflow_add-place : goal.overflow_add-place
overflow_add-place c =
    let next = next-is c.args.log.now c.loop-hart.place c.in-Some.hart c.in-Some.turns c.requires.log (sym c.in-Some.ensures) in
    let within = next.0.within in let few = few_turns_all c.args.log.now c.requires.log in omega (arith, within, few)

pub loop-hart-smaller : goal.loop-hart-smaller
loop-hart-smaller c =
    let next = next-is c.args.log.now c.loop-hart.place c.in-Some.hart c.in-Some.turns c.requires.log (sym c.in-Some.ensures) in
    let some = next.0.some in let within = next.0.within in omega (arith, some, within)

pub loop-hart-preserved : goal.loop-hart-preserved
loop-hart-preserved c =
    let old = c.args.machine.now in
    let turns = c.args.log.now.turns in
    let place = c.loop-hart.place in
    let hart = c.in-Some.hart in
    let count = c.in-Some.turns in
    let i = c.loop-hart.invariant in
    let next = next-is c.args.log.now place hart count c.requires.log (sym c.in-Some.ensures) in
    let below : hart < 8 = (let b = next.1 in let f = c.requires.log.few_harts in omega (arith, b, f)) in
    record {
      within = next.0.within;
      state =
          c.replay_run.ensures.machine ∙ ap (λ s. run s (replicate count hart)) i.state ∙ sym (run-append old (take place turns) (replicate count hart))
          ∙ ap (run old) (sym (take-run turns place hart count next.0));
      shape = shape-then old c.loop-hart.machine _ i.shape c.replay_run.ensures.shape;
      tallies = tallies-more old c.loop-hart.machine turns c.loop-hart.tallies _ place hart count c.replay_run.result next.0 below i.state i.tallies
          c.replay_run.ensures.sum refl;
    }

pub returns-clause-machine : goal.returns-clause-machine
returns-clause-machine c =
    let turns = c.args.log.now.turns in
    c.loop-hart.invariant.state ∙ ap (run c.args.machine.now) (take_all c.loop-hart.place turns (run_at-none turns c.loop-hart.place
    (sym c.in_default.ensures)))

pub returns-clause-tallies : goal.returns-clause-tallies
returns-clause-tallies c =
    let turns = c.args.log.now.turns in
    c.loop-hart.invariant.tallies ∙ ap (λ ts. each (tally_from c.args.machine.now ts)) (take_all c.loop-hart.place turns (run_at-none turns c.loop-hart.place
    (sym c.in_default.ensures)))
