use Rattle.std.proofs.Common.{◌≡◌, ◌∙◌, length, refl, sym, subst}
use Rattle.debugger.specs.inner.KeptPlaces.{KeptFits}
use Rattle.debugger.specs.declared.kept.KeptPlaces.{KeptPlaces}
use Rattle.debugger.proofs.Keeping.{one-more, same-fits}
use Rattle.debugger.proofs.kept.push_last.Goals as goal
use Rattle.debugger.proofs.kept.push_last.Goals.{in-Ok, in-Err}

pub returns-clause-fits : goal.returns-clause-fits
returns-clause-fits c = λ image log memory fits is here.
    let kept = c.args.kept.now in
    elim c.match-push.branch [
      | in-Ok w ↦
          (let new : KeptPlaces = record { below = kept.below; places = c.push.new.self; written = w.fill.new.self } in
          let pushed = rw w.in-Ok.is at c.push.ensures.items in
          let long : length w.fill.new.self.items ≡ length kept.written.items = sym w.fill.new.self.ok.0 ∙ w.fill.ensures.len ∙ kept.written.ok.0 in
          subst (λ (k : KeptPlaces). KeptFits image log k memory) (sym w.kept-is) (one-more image log kept new c.args.copy memory refl pushed long fits is here))
      | in-Err w ↦
          (let new : KeptPlaces = record { below = kept.below; places = c.push.new.self; written = kept.written } in
          let pushed = rw w.in-Err.is at c.push.ensures.items in
          subst (λ (k : KeptPlaces). KeptFits image log k memory) (sym w.kept-is) (same-fits image log kept new memory refl pushed refl fits))
    ]
