use Rattle.std.proofs.Common.{◌≡◌, ◌∙◌, ◌%◌, arith, ℕ, Bool, List, length, sym, ap, subst}
use Rattle.multi_hart.specs.Run.{State}
use Rattle.debugger.specs.Places.{SessionState, state_at}
use Rattle.debugger.specs.inner.KeptPlaces.{IsCopy}
use Rattle.debugger.proofs.Holding.{flags-held, held-kept}
use Rattle.debugger.proofs.Keeping.{copy-kept}
use Rattle.debugger.proofs.sessions.Session.keep.Goals as goal

pub copy_of-requires : goal.copy_of-requires
copy_of-requires c =
    let session : SessionState = record {
      image = c.self.inside.image;
      log = c.self.inside.log;
      place = c.self.inside.place;
      breaks =
          c.self.inside.breaks.items;
      watches = c.self.inside.watches.items;
    } in
    ap (λ (xs : List Bool). length xs) c.deref-2.ensures.value ∙ flags-held session session.place c.self.inside.machine c.self.inside.kept
    c.self.invariant.state c.self.invariant.kept

pub invariant_of-self : goal.invariant_of-self
invariant_of-self c =
    let session : SessionState = record {
      image = c.self.inside.image;
      log = c.self.inside.log;
      place = c.self.inside.place;
      breaks =
          c.self.inside.breaks.items;
      watches = c.self.inside.watches.items;
    } in
    let machine = c.self.inside.machine in
    let kept = c.self.inside.kept in
    let copy = c.in-Ok.copy in
    let copied : IsCopy session.place machine kept.written.items copy = subst (λ (xs : List Bool). IsCopy session.place machine xs copy) c.deref-2.ensures.value
    c.in-Ok.ensures in
    let every : session.place % 4096 ≡ 0 = grind arith in
    let is = copy-kept session.image session.log kept session.place machine copy c.self.invariant.kept c.self.invariant.state c.self.invariant.within every
    copied in
    let here : machine.memory ≡ (state_at session copy.place).memory = ap (λ (s : State). s.memory) c.self.invariant.state
    ∙ ap (λ (p : ℕ). (state_at session p).memory) (sym copied.place_is) in
    held-kept session machine c.self.inside.opening.items c.self.inside.insns.items kept c.keep_last.new.kept c.self.invariant
    (c.keep_last.ensures.fits session.image session.log machine.memory c.self.invariant.kept is here)
