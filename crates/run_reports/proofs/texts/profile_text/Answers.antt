use Rattle.std.proofs.Common.{◌∙◌, ℕ, List, length, subst, sym}
use Rattle.std.specs.List.{All}
use Rattle.std.proofs.lemmas.Result.{IfOk-weaker}
use Rattle.turn_log.proofs.RunLaws.{few_turns_all}
use Rattle.run_reports.specs.Profile.{IsProfile}
use Rattle.run_reports.specs.declared.profiles.HartProfile.{HartProfile}
use Rattle.run_reports.specs.inner.Counting.{AreFew}
use Rattle.run_reports.proofs.Adding.{few_counted}
use Rattle.run_reports.proofs.Lines.{text_said}
use Rattle.run_reports.proofs.texts.profile_text.Goals as goal

pub text_of-requires-clause-counts : goal.text_of-requires-clause-counts
text_of-requires-clause-counts c =
    let profiles = c.in_ok-profiles.profiles.items in
    let few = few_counted c.args.machine.now c.args.log.now.turns profiles c.in_ok-profiles.ensures.counted
    (few_turns_all c.args.log.now c.harts-harts.ensures.log) in
    subst (λ (ps : List HartProfile). All (AreFew (length c.args.words.now)) ps) (sym c.deref.ensures.value)
    (subst (λ (words : List ℕ). All (AreFew (length words)) profiles) (sym c.requires.text) few)

pub returns-clause-text : goal.returns-clause-text
returns-clause-text c =
    let begin = c.args.machine.now in
    let turns = c.args.log.now.turns in
    let said = text_said begin turns c.args.words.now c.deref.result.now c.requires.text
    (subst (IsProfile begin turns) (sym c.deref.ensures.value) c.in_ok-profiles.ensures.counted) in
    IfOk-weaker c.text_of.result _ _ (λ text is. is ∙ said) c.text_of.ensures
