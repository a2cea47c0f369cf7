use Rattle.std.proofs.Common.{◌≡◌, Some, None, ap, sym, ◌∙◌, arith, inl, inr}
use Rattle.std.proofs.lemmas.Bool.{cases_lt}
use Rattle.debugger.specs.Places.{SessionState, moved}
use Rattle.debugger.proofs.Passes.{latest-from, previous-at-start}
use Rattle.debugger.proofs.sessions.Session.previous_stop.Goals as goal

pub returns-in-Some-clause-stop : goal.returns-in-Some-clause-stop
returns-in-Some-clause-stop c =
    let session = c.args.self.now.state in
    let here = c.approach.new.self.state in
    let last_place = c.loop-last_place.last_place in
    let e = c.approach.ensures.state ∙ ap (λ (s : SessionState). moved s here.place) c.loop-last_place.invariant.state in
    let latest = latest-from session here here.place here.place last_place (Some c.in-Some.stop) e c.in-Some.ensures.latest in
    let before = c.loop-last_place.invariant.before in
    record {
      before = omega (arith, latest.0, before);
      stops_there = latest.1;
      greatest = λ k after under. elim (cases_lt last_place k) [
        | inl behind ↦ c.loop-last_place.invariant.none k behind under
        | inr up_to ↦ latest.2 k after
            up_to
      ];
    }

pub loop-last_place-preserved : goal.loop-last_place-preserved
loop-last_place-preserved c =
    let session = c.args.self.now.state in
    let here = c.approach.new.self.state in
    let last_place = c.loop-last_place.last_place in
    let e = c.approach.ensures.state ∙ ap (λ (s : SessionState). moved s here.place) c.loop-last_place.invariant.state in
    let latest = latest-from session here here.place here.place last_place None e c.in-None.ensures.latest in
    let gone = c.last_stop.ensures.state ∙ ap (λ (s : SessionState). moved s last_place) e in
    let begin = c.place-begin.ensures.value in
    record {
      state = gone ∙ ap (moved session) (sym (ap (λ (s : SessionState). s.place) gone));
      steps = omega (arith, c.loop-last_place.invariant.steps, c.approach.ensures.steps, c.last_stop.ensures.steps);
      before = omega (arith, begin, c.approach.ensures.before, c.loop-last_place.invariant.before);
      none = λ k after under. elim (cases_lt last_place k) [
        | inl behind ↦ c.loop-last_place.invariant.none k behind under
        | inr up_to ↦ latest k
            (omega (arith, begin)) up_to
      ];
    }

pub returns-clause-stop : goal.returns-clause-stop
returns-clause-stop c =
    let session = c.args.self.now.state in
    let here = c.approach-2.new.self.state in
    let e = c.approach-2.ensures.state ∙ ap (λ (s : SessionState). moved s here.place) c.loop-last_place.invariant.state in
    let over : c.loop-last_place.last_place ≡ 0 = omega arith in
    let before = c.loop-last_place.invariant.before in
    previous-at-start session here here.place c.stop_at_start.result e (omega arith) (λ k after under. c.loop-last_place.invariant.none k (omega arith) under)
    c.stop_at_start.ensures
