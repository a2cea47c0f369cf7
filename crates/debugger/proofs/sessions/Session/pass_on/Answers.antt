use Rattle.std.proofs.Common.{◌∙◌, ◌+◌, length, refl, ap, arith}
use Rattle.debugger.specs.Places.{CountedSession, SessionState}
use Rattle.debugger.specs.inner.Passing.{Fits}
use Rattle.debugger.proofs.Holding.{held-marked, text-meant}
use Rattle.debugger.proofs.sessions.Session.pass_on.Goals as goal

pub pass-passed-requires-clause-meant : goal.pass-passed-requires-clause-meant
pass-passed-requires-clause-meant c =
    let session : SessionState = record {
      image = c.self.inside.image;
      log = c.self.inside.log;
      place = c.self.inside.place;
      breaks =
          c.self.inside.breaks.items;
      watches = c.self.inside.watches.items;
    } in
    c.deref-3.ensures.value ∙ text-meant session session.place c.self.inside.machine c.self.inside.insns.items c.self.invariant.state c.self.invariant.insns

pub invariant_of-self : goal.invariant_of-self
invariant_of-self c =
    let session : SessionState = record {
      image = c.self.inside.image;
      log = c.self.inside.log;
      place = c.self.inside.place;
      breaks =
          c.self.inside.breaks.items;
      watches = c.self.inside.watches.items;
    } in
    let machine = c.self.inside.machine in
    let kept = c.self.inside.kept in
    let place = session.place + c.pass-passed.result.turns in
    let fits : Fits session c.self.inside.log c.deref.result.now c.deref-2.result.now machine session.place = record {
      same_log = refl;
      same_breaks =
          c.deref.ensures.value;
      same_watches = c.deref-2.ensures.value;
      state = c.self.invariant.state;
    } in
    let within = c.pass-passed.ensures.within in
    let limit = ap (λ (s : CountedSession). length s.state.log.turns) c.self.view_is in
    let most = c.requires.within in
    held-marked session machine c.pass-passed.new.machine c.self.inside.opening.items c.self.inside.insns.items kept place c.deref_mut.result.now
    c.pass-passed.new.written c.self.invariant c.deref_mut.ensures.value c.pass-passed.ensures.marks (c.pass-passed.ensures.state session fits)
    (omega arith)

pub invariant_of-self-else-is_turn_by_turn : goal.invariant_of-self-else-is_turn_by_turn
invariant_of-self-else-is_turn_by_turn c =
    let session : SessionState = record {
      image = c.self.inside.image;
      log = c.self.inside.log;
      place = c.self.inside.place;
      breaks =
          c.self.inside.breaks.items;
      watches = c.self.inside.watches.items;
    } in
    let machine = c.self.inside.machine in
    let kept = c.self.inside.kept in
    let place = session.place + c.pass-passed.result.turns in
    let fits : Fits session c.self.inside.log c.deref.result.now c.deref-2.result.now machine session.place = record {
      same_log = refl;
      same_breaks =
          c.deref.ensures.value;
      same_watches = c.deref-2.ensures.value;
      state = c.self.invariant.state;
    } in
    let within = c.pass-passed.ensures.within in
    let limit = ap (λ (s : CountedSession). length s.state.log.turns) c.self.view_is in
    let most = c.requires.within in
    held-marked session machine c.pass-passed.new.machine c.self.inside.opening.items c.self.inside.insns.items kept place c.deref_mut.result.now
    c.pass-passed.new.written c.self.invariant c.deref_mut.ensures.value c.pass-passed.ensures.marks (c.pass-passed.ensures.state session fits)
    (omega arith)
