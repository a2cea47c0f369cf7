use Rattle.std.proofs.Common.{◌≡◌, ◌∙◌, List, Some, length, refl, sym, ap, arith}
use Rattle.std.specs.Prelude.{option_map, slice_get}
use Rattle.hart_core.specs.HartState.{HartState}
use Rattle.debugger.specs.declared.kept.KeptPlace.{KeptPlace}
use Rattle.debugger.specs.Places.{SessionState, state_at}
use Rattle.debugger.proofs.Holding.{as-many-bytes, as-many-harts, can-go-back, held-there, same-text, start-again}
use Rattle.debugger.proofs.Keeping.{kept-every, kept-within}
use Rattle.debugger.proofs.sessions.Session.approach.Goals as goal

pub put_back-requires-clause-can : goal.put_back-requires-clause-can
put_back-requires-clause-can c =
    let session : SessionState = record {
      image = c.self.inside.image;
      log = c.self.inside.log;
      place = c.self.inside.place;
      breaks =
          c.self.inside.breaks.items;
      watches = c.self.inside.watches.items;
    } in
    can-go-back session session.place c.self.inside.machine c.self.inside.kept c.self.invariant.state c.self.invariant.kept

pub put_back-requires-clause-size : goal.put_back-requires-clause-size
put_back-requires-clause-size c =
    let session : SessionState = record {
      image = c.self.inside.image;
      log = c.self.inside.log;
      place = c.self.inside.place;
      breaks =
          c.self.inside.breaks.items;
      watches = c.self.inside.watches.items;
    } in
    as-many-bytes session session.place c.self.inside.machine c.self.invariant.state

pub invariant_of-self : goal.invariant_of-self
invariant_of-self c =
    let session : SessionState = record {
      image = c.self.inside.image;
      log = c.self.inside.log;
      place = c.self.inside.place;
      breaks =
          c.self.inside.breaks.items;
      watches = c.self.inside.watches.items;
    } in
    let machine = c.self.inside.machine in
    let kept = c.self.inside.kept in
    let place = c.in-Some.kept in
    let fits = c.self.invariant.kept in
    let found : option_map (λ (copy : KeptPlace). copy.place) (slice_get kept.places.items c.in-Some.at) ≡ Some place =
    ap (λ (cs : List KeptPlace). option_map (λ (copy : KeptPlace). copy.place) (slice_get cs c.in-Some.at)) (sym c.deref.ensures.value)
    ∙ c.in-Some.ensures.kept in
    let text = same-text session session.place machine c.self.invariant.state in
    let state = c.put_back.ensures.state session.log machine.memory place fits found text in
    let within = kept-within session.image session.log kept c.in-Some.at place machine.memory fits found in
    held-there session machine c.put_back.new.machine c.self.inside.opening.items c.self.inside.insns.items kept c.put_back.new.kept place c.self.invariant
    state within (c.put_back.ensures.fits session.log machine.memory fits)

pub returns-in-Some-clause-begins : goal.returns-in-Some-clause-begins
returns-in-Some-clause-begins c = λ other.
    let session : SessionState = record {
      image = c.self.inside.image;
      log = c.self.inside.log;
      place = c.self.inside.place;
      breaks =
          c.self.inside.breaks.items;
      watches = c.self.inside.watches.items;
    } in
    let kept = c.self.inside.kept in
    let place = c.in-Some.kept in
    let found : option_map (λ (copy : KeptPlace). copy.place) (slice_get kept.places.items c.in-Some.at) ≡ Some place =
    ap (λ (cs : List KeptPlace). option_map (λ (copy : KeptPlace). copy.place) (slice_get cs c.in-Some.at)) (sym c.deref.ensures.value)
    ∙ c.in-Some.ensures.kept in
    absurd (other (kept-every session.image session.log kept c.in-Some.at place c.self.inside.machine.memory c.self.invariant.kept found))

pub put_at_start-requires-clause-size : goal.put_at_start-requires-clause-size
put_at_start-requires-clause-size c =
    let session : SessionState = record {
      image = c.self.inside.image;
      log = c.self.inside.log;
      place = c.self.inside.place;
      breaks =
          c.self.inside.breaks.items;
      watches = c.self.inside.watches.items;
    } in
    as-many-bytes session session.place c.self.inside.machine c.self.invariant.state

pub put_at_start-requires-clause-harts : goal.put_at_start-requires-clause-harts
put_at_start-requires-clause-harts c =
    let session : SessionState = record {
      image = c.self.inside.image;
      log = c.self.inside.log;
      place = c.self.inside.place;
      breaks =
          c.self.inside.breaks.items;
      watches = c.self.inside.watches.items;
    } in
    ap (λ (hs : List HartState). length hs) (c.deref-in-None.ensures.value ∙ c.self.invariant.opening) ∙ as-many-harts session 0 (state_at session 0) refl
    ∙ sym c.self.invariant.harts

pub invariant_of-self-then-place-self-2 : goal.invariant_of-self-then-place-self-2
invariant_of-self-then-place-self-2 c =
    let session : SessionState = record {
      image = c.self.inside.image;
      log = c.self.inside.log;
      place = c.self.inside.place;
      breaks =
          c.self.inside.breaks.items;
      watches = c.self.inside.watches.items;
    } in
    let machine = c.self.inside.machine in
    let text = same-text session session.place machine c.self.invariant.state in
    let state = start-again session machine c.put_at_start.new.machine c.deref-in-None.result.now c.self.inside.opening.items c.put_at_start.ensures.state text
    c.deref-in-None.ensures.value c.self.invariant.opening in
    held-there session machine c.put_at_start.new.machine c.self.inside.opening.items c.self.inside.insns.items c.self.inside.kept c.put_at_start.new.kept 0
    c.self.invariant state (omega arith) (c.put_at_start.ensures.fits session.log machine.memory c.self.invariant.kept)
