use Rattle.std.proofs.Common.{◌+◌, ap, ◌∙◌, arith}
use Rattle.debugger.specs.Places.{SessionState, moved}
use Rattle.debugger.proofs.Passes.{passed-from}
use Rattle.debugger.proofs.sessions.Session.last_stop.Goals as goal

pub loop-place-preserved : goal.loop-place-preserved
loop-place-preserved c =
    let session = c.args.self.now.state in
    let place = c.loop-place.place in
    let e = c.loop-place.invariant.state in
    let here = ap (λ (s : SessionState). s.place) e in
    let passed = passed-from session c.loop-place.self.state place c.pass_on-passed.result e c.pass_on-passed.ensures.passed in
    record {
      state = c.pass_on-passed.ensures.state ∙ ap (λ (s : SessionState). moved s (s.place + c.pass_on-passed.result.turns)) e;
      steps = omega (arith, c.loop-place.invariant.steps, c.pass_on-passed.ensures.grows);
      within = omega (arith, here, c.pass_on-passed.ensures.within);
      latest = c.latest-last.ensures session session.place passed c.loop-place.invariant.latest;
    }
