use Rattle.std.proofs.Common.{refl, [], ◌∷◌}
use Rattle.assembler.proofs.Built.{built_words}
use Rattle.assembler.proofs.building.Building.add.Goals as goal

pub returns-in_ok-push-in-Word-clause-added : goal.returns-in_ok-push-in-Word-clause-added
returns-in_ok-push-in-Word-clause-added c = λ a given b makes.
    built_words c.args.self.now _ a given (c.in-Word.word ∷ []) b (rw c.in-Word.is at makes) refl c.in_ok-push-in-Word.ensures.items refl refl refl

pub returns-in_ok-extend_from_slice-in-Words-clause-added : goal.returns-in_ok-extend_from_slice-in-Words-clause-added
returns-in_ok-extend_from_slice-in-Words-clause-added c = λ a given b makes.
    built_words c.args.self.now _ a given (c.in-Words.first ∷ c.in-Words.second ∷ []) b (rw c.in-Words.is at makes) refl
    c.in_ok-extend_from_slice-in-Words.ensures.items refl refl refl
