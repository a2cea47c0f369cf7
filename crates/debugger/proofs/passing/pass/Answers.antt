use Rattle.std.proofs.Common.{◌+◌, ◌<◌, ◌≤◌, ℕ, length, refl, sym, ap, subst, ◌∙◌, arith}
use Rattle.std.specs.Prelude.{◌≢◌}
use Rattle.hart_core.specs.declared.harts.Status.TheVariants.{Running}
use Rattle.multi_hart.specs.Run.{State, hart_at}
use Rattle.turn_log.specs.TurnLog.{LogState}
use Rattle.turn_log.specs.RunAt.{Stand}
use Rattle.debugger_writes.proofs.Marking.{marks_none}
use Rattle.debugger.specs.Places.{state_at}
use Rattle.debugger.specs.inner.Steps.{steps_of}
use Rattle.debugger.proofs.Counting.{rest-steps, same_hart, steps-standing}
use Rattle.debugger.proofs.Places.{next-is, none-is}
use Rattle.debugger.proofs.Passes.{at-once, rest-state, stands-behind, until-behind, until-between, until-of}
use Rattle.debugger.proofs.passing.pass.Goals as goal

pub unreachable-requires : goal.unreachable-requires
unreachable-requires c =
    let ended = none-is c.args.log.now c.args.way.place (sym c.run_at.ensures ∙ c.in_default.is) in
    let before = c.requires.before in
    let within = c.requires.within in
    omega arith

pub status-requires : goal.status-requires
status-requires c =
    let next = next-is c.args.log.now c.args.way.place c.in-Some.hart c.in-Some.count c.harts-harts.ensures.log (sym c.run_at.ensures ∙ c.in-Some.is) in
    omega (arith, next.below, c.requires.harts)

pub returns-in_default-status : goal.returns-in_default-status
returns-in_default-status c =
    let log = c.args.log.now in
    let machine = c.args.machine.now in
    let place = c.args.way.place in
    let hart = c.in-Some.hart in
    let turns = c.min-all.result in
    let run = sym c.run_at.ensures ∙ c.in-Some.is in
    let is = c.harts-harts.ensures.log in
    let next = next-is log place hart c.in-Some.count is run in
    let start = next.stand.some in
    let least = c.min-all.ensures in
    let before = c.requires.before in
    let made = c.pass_rest.ensures.turns in
    let some : 1 ≤ turns = omega arith in
    let most : turns ≤ c.in-Some.count = omega arith in
    let rests : (hart_at machine hart).status ≢ Running = λ runs. c.in_default-status.not-Running (c.status.ensures ∙ runs) in
    let below : hart < length machine.harts = omega (arith, next.below, c.requires.harts) in
    record {
      passed = λ session fits. c.pass_rest.ensures.passed session c.args.marks.now.watches.now c.in-Some.count fits run some most is;
      state = λ session fits.
          (let once = at-once session log machine place hart c.in-Some.count turns fits.same_log is run fits.state (c.requires.harts
          ∙ ap (λ (l : LogState). l.harts) fits.same_log) some most (λ two. rests) in
          let still = subst (λ (s : State). (hart_at s hart).status ≢ Running) fits.state rests in
          fits.state ∙ sym (rest-state session place hart c.in-Some.count turns once still) ∙ ap (λ (n : ℕ). state_at session (place + n)) (sym made));
      steps = λ other count found.
          (let same = same_hart _ hart c.in-Some.count other count run found in
          c.pass_rest.ensures.steps ∙ sym (rest-steps machine hart turns below rests)
          ∙ ap (λ (n : ℕ). steps_of machine hart n) (sym made) ∙ ap (λ (h : ℕ). steps_of machine h c.pass_rest.result.turns) same);
      counted = λ session fits.
          (let stand = subst (λ (log : LogState). Stand log.turns place hart c.in-Some.count) fits.same_log next.stand in
          c.pass_rest.ensures.steps ∙ sym (rest-steps machine hart turns below rests)
          ∙ ap (λ (n : ℕ). steps_of machine hart n) (sym made) ∙ ap (λ (s : State). steps_of s hart c.pass_rest.result.turns) fits.state
          ∙ steps-standing session place hart c.in-Some.count c.pass_rest.result.turns stand (omega arith));
      some = omega arith;
      within = omega arith;
      shape = record { text = refl; bytes = refl; harts = refl };
      marks = marks_none machine.memory c.args.written.now;
    }

pub make_until-until-requires-clause-there : goal.make_until-until-requires-clause-there
make_until-until-requires-clause-there c =
    let next = next-is c.args.log.now c.args.way.place c.in-Some.hart c.in-Some.count c.harts-harts.ensures.log (sym c.run_at.ensures ∙ c.in-Some.is) in
    omega (arith, next.below, c.requires.harts)

pub make_until-until-requires-clause-some : goal.make_until-until-requires-clause-some
make_until-until-requires-clause-some c =
    let next = next-is c.args.log.now c.args.way.place c.in-Some.hart c.in-Some.count c.harts-harts.ensures.log (sym c.run_at.ensures ∙ c.in-Some.is) in
    let start = next.stand.some in
    let least = c.min-all.ensures in
    let before = c.requires.before in
    let up_to = c.up_to_kept.ensures in
    let most = c.min-most.ensures in
    omega arith

pub returns-clause-passed : goal.returns-clause-passed
returns-clause-passed c = λ session fits.
    let log = c.args.log.now in
    let machine = c.args.machine.now in
    let place = c.args.way.place in
    let hart = c.in-Some.hart in
    let count = c.in-Some.count in
    let turns = c.make_until-until.result.turns in
    let changed = c.make_until-until.result.changed in
    let run = sym c.run_at.ensures ∙ c.in-Some.is in
    let is = c.harts-harts.ensures.log in
    let least = c.min-all.ensures in
    let most = c.min-most.ensures in
    let some : 1 ≤ turns = c.make_until-until.ensures.some.0 in
    let bound = c.make_until-until.ensures.some.1 in
    let within : turns ≤ count = omega arith in
    let state = c.make_until-until.ensures.state in
    let behind = stands-behind session log c.args.marks.now.breaks.now c.args.marks.now.watches.now machine c.make_until-until.new.machine place hart count
    turns fits is run within state in
    let stands = c.is_on_break-on_break.ensures session fits.same_log fits.same_breaks behind in
    let on_break = c.is_on_break-on_break.result in
    let until = until-of session log c.args.marks.now.breaks.now c.args.marks.now.watches.now machine c.make_until-until.new.machine place hart count turns
    changed on_break fits is run some within state c.make_until-until.ensures.quiet c.make_until-until.ensures.changed stands in
    record {
      some = some;
      between = λ k after before. until-between session place hart count turns k changed on_break until after before;
      behind = until-behind session place hart count turns changed on_break until ∙ sym c.either.ensures;
    }

pub returns-clause-state : goal.returns-clause-state
returns-clause-state c = λ session fits.
    let least = c.min-all.ensures in
    let most = c.min-most.ensures in
    let bound = c.make_until-until.ensures.some.1 in
    let within : c.make_until-until.result.turns ≤ c.in-Some.count = omega arith in
    stands-behind session c.args.log.now c.args.marks.now.breaks.now c.args.marks.now.watches.now c.args.machine.now c.make_until-until.new.machine
    c.args.way.place c.in-Some.hart c.in-Some.count c.make_until-until.result.turns fits
    c.harts-harts.ensures.log (sym c.run_at.ensures ∙ c.in-Some.is) within c.make_until-until.ensures.state

pub returns-clause-steps : goal.returns-clause-steps
returns-clause-steps c = λ hart count found.
    let same = same_hart _ c.in-Some.hart c.in-Some.count hart count (sym c.run_at.ensures ∙ c.in-Some.is) found in
    sym c.make_until-until.ensures.steps ∙ ap (λ (h : ℕ). steps_of c.args.machine.now h c.make_until-until.result.turns) same

pub returns-clause-counted : goal.returns-clause-counted
returns-clause-counted c = λ session fits.
    let place = c.args.way.place in
    let hart = c.in-Some.hart in
    let count = c.in-Some.count in
    let turns = c.make_until-until.result.turns in
    let next = next-is c.args.log.now place hart count c.harts-harts.ensures.log (sym c.run_at.ensures ∙ c.in-Some.is) in
    let stand = subst (λ (log : LogState). Stand log.turns place hart count) fits.same_log next.stand in
    let least = c.min-all.ensures in
    let most = c.min-most.ensures in
    let bound = c.make_until-until.ensures.some.1 in
    sym c.make_until-until.ensures.steps ∙ ap (λ (s : State). steps_of s hart turns) fits.state
    ∙ steps-standing session place hart count turns stand (omega arith)
