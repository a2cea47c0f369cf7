use Rattle.std.proofs.Common.{ℕ, subst, replicate, sym, ap, ◌∙◌, arith}
use Rattle.multi_hart.specs.Run.{State, run}
use Rattle.turn_log.specs.TurnLog.{LogState}
use Rattle.turn_log.specs.RunAt.{Stand}
use Rattle.debugger.specs.inner.Steps.{steps_of}
use Rattle.debugger.proofs.Counting.{same_hart, steps-standing}
use Rattle.debugger.proofs.Places.{next-is, none-is, run-standing}
use Rattle.debugger.proofs.turns.make_some.Goals as goal

pub unreachable-requires : goal.unreachable-requires
unreachable-requires c =
    let ended = none-is c.args.log.now c.args.way.place (sym c.run_at.ensures ∙ c.in_default.is) in
    let before = c.requires.before in
    let inside = c.requires.within in
    omega arith

pub at_most-turns-requires-clause-there : goal.at_most-turns-requires-clause-there
at_most-turns-requires-clause-there c =
    let next = next-is c.args.log.now c.args.way.place c.in-Some.hart c.in-Some.count c.harts-harts.ensures.log (sym c.run_at.ensures ∙ c.in-Some.is) in
    omega (arith, next.below, c.requires.harts)

pub at_most-turns-requires-clause-some : goal.at_most-turns-requires-clause-some
at_most-turns-requires-clause-some c =
    let next = next-is c.args.log.now c.args.way.place c.in-Some.hart c.in-Some.count c.harts-harts.ensures.log (sym c.run_at.ensures ∙ c.in-Some.is) in
    let some = next.stand.some in
    let least = c.min.ensures in
    omega arith

pub make_counted-steps-requires-clause-there : goal.make_counted-steps-requires-clause-there
make_counted-steps-requires-clause-there c =
    let next = next-is c.args.log.now c.args.way.place c.in-Some.hart c.in-Some.count c.harts-harts.ensures.log (sym c.run_at.ensures ∙ c.in-Some.is) in
    omega (arith, next.below, c.requires.harts)

pub returns-clause-state : goal.returns-clause-state
returns-clause-state c = λ start from.
    let next = next-is c.args.log.now c.args.way.place c.in-Some.hart c.in-Some.count c.harts-harts.ensures.log (sym c.run_at.ensures ∙ c.in-Some.is) in
    let least = c.min.ensures in
    c.make_counted-steps.ensures.state
    ∙ ap (λ (s : State). run s (replicate c.at_most-turns.result c.in-Some.hart)) from
    ∙ sym (run-standing start c.args.log.now.turns c.args.way.place c.in-Some.hart c.in-Some.count c.at_most-turns.result next.stand
    (omega (arith, c.at_most-turns.ensures.most)))

pub returns-clause-steps : goal.returns-clause-steps
returns-clause-steps c = λ hart count is.
    let same = same_hart _ c.in-Some.hart c.in-Some.count hart count (sym c.run_at.ensures ∙ c.in-Some.is) is in
    c.make_counted-steps.ensures.steps ∙ ap (λ (h : ℕ). steps_of c.args.machine.now h c.at_most-turns.result) same

pub returns-clause-counted : goal.returns-clause-counted
returns-clause-counted c = λ session same here.
    let place = c.args.way.place in
    let hart = c.in-Some.hart in
    let count = c.in-Some.count in
    let turns = c.at_most-turns.result in
    let next = next-is c.args.log.now place hart count c.harts-harts.ensures.log (sym c.run_at.ensures ∙ c.in-Some.is) in
    let stand = subst (λ (log : LogState). Stand log.turns place hart count) same next.stand in
    let least = c.min.ensures in
    c.make_counted-steps.ensures.steps ∙ ap (λ (s : State). steps_of s hart turns) here
    ∙ steps-standing session place hart count turns stand (omega (arith, c.at_most-turns.ensures.most))
