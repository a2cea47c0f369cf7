use Rattle.std.proofs.Common.{◌≡◌, [], sym, ◌∙◌, append_assoc, arith}
use Rattle.std.proofs.lemmas.Grind.{common_steps}
use Rattle.std.proofs.lemmas.List.{append-nil}
use Rattle.schedule_lines.proofs.FrontWords.{no_words}
use Rattle.schedule_lines.proofs.words.words_of.Goals as goal

pub words-preserved : goal.words-preserved
words-preserved c = rw (c.in_ok-push_word.ensures, append_assoc, ← c.front_word.ensures.words) c.words.invariant

pub returns : goal.returns
returns c =
    let e : c.words.rest.now ≡ [] = grind (arith, common_steps) in
    sym (append-nil c.words.words.items) ∙ (rw (no_words c.words.rest.now e) at c.words.invariant)
