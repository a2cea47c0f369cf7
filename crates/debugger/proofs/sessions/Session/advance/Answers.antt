use Rattle.std.proofs.Common.{◌∙◌}
use Rattle.debugger.specs.Places.{SessionState}
use Rattle.debugger.proofs.Holding.{text-meant}
use Rattle.debugger.proofs.sessions.Session.advance.Goals as goal

pub make_some-made-requires-clause-meant : goal.make_some-made-requires-clause-meant
make_some-made-requires-clause-meant c =
    let session : SessionState = record {
      image = c.self.inside.image;
      log = c.self.inside.log;
      place = c.self.inside.place;
      breaks =
          c.self.inside.breaks.items;
      watches = c.self.inside.watches.items;
    } in
    c.deref.ensures.value ∙ text-meant session session.place c.self.inside.machine c.self.inside.insns.items c.self.invariant.state c.self.invariant.insns
