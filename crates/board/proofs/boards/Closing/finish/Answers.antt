use Rattle.std.proofs.Common.{◌≤◌, sym, ap, ◌∙◌, subst}
use Rattle.std.specs.Prelude.{slice_index}
use Rattle.std.specs.Mem.Slots.{slots_items}
use Rattle.board.specs.Rule.{Fits}
use Rattle.board.proofs.boards.Closing.finish.Goals as goal

pub returns-clause-ends : goal.returns-clause-ends
returns-clause-ends c =
    let v = c.close_with-closed.ensures.values in
    let token = c.args.self.gatherer in record {
      words = slots_items c.close_with-closed.result.words;
      fits = subst (λ words. Fits words token.me.0) v.2.2 (v.2.1.0.fits token.id token.me.0 v.2.1.1);
      same = c.first_words-words.ensures;
    }

pub returns-clause-rest : goal.returns-clause-rest
returns-clause-rest c =
    let v = c.close_with-closed.ensures.values in
    λ hart beyond below. c.first_words-words.ensures hart below ∙ ap (λ words. slice_index words hart) (sym v.2.2)
    ∙ v.2.1.0.rest hart (subst (λ n. n ≤ hart) (sym c.args.self.board.ruled) beyond) below
