use Rattle.std.proofs.Common.{◌≡◌, ◌≢◌, ◌∙◌, ◌++◌, [], sym, ap, arith}
use Rattle.std.specs.String.{string_bytes}
use Rattle.std.proofs.lemmas.List.{append-nil}
use Rattle.std.proofs.lemmas.Grind.{common_steps}
use Rattle.hrv_engines.specs.Talk.{talk}
use Rattle.hrv_engines.proofs.TalkSteps.{last_talk, no_talk}
use Rattle.hrv_engines.proofs.talks.Talk.end.Goals as goal

pub returns-in_ok-answer_line : goal.returns-in_ok-answer_line
returns-in_ok-answer_line c =
    let some : c.args.self.now.unended.items ≢ [] = λ e. grind (arith, common_steps) in
    (rw c.deref.ensures.value at c.in_ok-answer_line.ensures.text)
    ∙ ap (λ t. string_bytes c.args.text.now ++ t) (sym (last_talk c.args.self.now.session.state c.args.self.now.unended.items c.requires some))

pub returns-else-not-is_empty : goal.returns-else-not-is_empty
returns-else-not-is_empty c =
    let none : c.args.self.now.unended.items ≡ [] = grind (arith, common_steps) in
    sym (ap (λ t. string_bytes c.args.text.now ++ t) (ap (talk c.args.self.now.session.state) none ∙ no_talk c.args.self.now.session.state)
    ∙ append-nil (string_bytes c.args.text.now))
