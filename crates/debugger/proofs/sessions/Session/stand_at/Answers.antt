use Rattle.std.proofs.Common.{ap, ◌∙◌, arith}
use Rattle.debugger.specs.Places.{CountedSession, SessionState, moved}
use Rattle.debugger.proofs.OnTheWay.{walked-there, walking-none, walking-on}
use Rattle.debugger.proofs.sessions.Session.stand_at.Goals as goal

pub loop-self-init : goal.loop-self-init
loop-self-init c = record {
  state = c.approach.ensures.state;
  within = c.approach.ensures.before;
  walked = walking-none c.args.self.now c.approach.new.self c.args.place c.approach.ensures.fits c.approach.ensures.steps c.approach.ensures.onwards
      c.approach.ensures.begins;
}

pub loop-self-preserved : goal.loop-self-preserved
loop-self-preserved c =
    let invariant = c.loop-self.invariant in
    record {
      state = c.advance.ensures.state ∙ ap (λ (s : SessionState). moved s c.advance.new.self.state.place) invariant.state;
      within = c.advance.ensures.within;
      walked = walking-on c.args.self.now c.loop-self.self c.advance.new.self c.args.place invariant.walked invariant.state c.advance.ensures.onwards
          c.advance.ensures.grows c.advance.ensures.steps;
    }

pub returns-clause-steps : goal.returns-clause-steps
returns-clause-steps c =
    let within = c.loop-self.invariant.within in
    let here = ap (λ (s : CountedSession). s.state.place) c.self.view_is in
    walked-there c.args.self.now c.loop-self.self c.args.place c.loop-self.invariant.walked (omega arith)
