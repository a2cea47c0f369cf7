use Rattle.std.proofs.Common.{◌+◌, ap, ◌∙◌, arith, inl, inr}
use Rattle.std.proofs.lemmas.Bool.{cases_lt}
use Rattle.debugger.specs.Places.{SessionState, moved}
use Rattle.debugger.proofs.Passes.{passed-from}
use Rattle.debugger.proofs.sessions.Session.next_stop.Goals as goal

pub returns-in-Some-clause-stop : goal.returns-in-Some-clause-stop
returns-in-Some-clause-stop c =
    let session = c.args.self.now.state in
    let place = c.loop-place.place in
    let e = c.loop-place.invariant.state in
    let here = ap (λ (s : SessionState). s.place) e in
    let passed = passed-from session c.loop-place.self.state place c.pass_on-passed.result e c.pass_on-passed.ensures.passed in
    let first = c.in-Some.ensures session passed in
    record {
      after = omega (arith, first.0, c.loop-place.invariant.from);
      within = omega (arith, first.1, here, c.pass_on-passed.ensures.within, c.length-end.ensures);
      stops_there = first.2;
      least = λ k after before. elim (cases_lt place k) [ inl behind ↦ first.3 k behind before | inr up_to ↦ c.loop-place.invariant.none k after up_to ];
    }

pub loop-place-preserved : goal.loop-place-preserved
loop-place-preserved c =
    let session = c.args.self.now.state in
    let place = c.loop-place.place in
    let e = c.loop-place.invariant.state in
    let here = ap (λ (s : SessionState). s.place) e in
    let passed = passed-from session c.loop-place.self.state place c.pass_on-passed.result e c.pass_on-passed.ensures.passed in
    let none = c.in-None.ensures session passed in
    record {
      state = c.pass_on-passed.ensures.state ∙ ap (λ (s : SessionState). moved s (s.place + c.pass_on-passed.result.turns)) e;
      steps = omega (arith, c.loop-place.invariant.steps, c.pass_on-passed.ensures.grows);
      from = omega (arith, c.loop-place.invariant.from);
      within = omega (arith, here, c.pass_on-passed.ensures.within);
      none = λ k after up_to. elim (cases_lt place k) [ inl behind ↦ none k behind up_to | inr before ↦ c.loop-place.invariant.none k after before ];
    }
