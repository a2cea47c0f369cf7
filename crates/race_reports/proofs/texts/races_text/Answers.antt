use Rattle.std.proofs.Common.{◌≡◌, ◌∙◌, ◌<◌, ap, length, subst, sym, take}
use Rattle.multi_hart.specs.Run.{State, run}
use Rattle.multi_hart.proofs.TurnByTurn.{shape-run}
use Rattle.race_reports.proofs.Told.{told_harts}
use Rattle.race_reports.proofs.texts.races_text.Goals as goal

pub race_text-requires-clause-text : goal.race_text-requires-clause-text
race_text-requires-clause-text c =
    let begin = c.args.machine.now in
    let made = take c.in-Some.found.place c.args.log.now.turns in
    let state : c.first_race.new.machine ≡ run begin made = rw c.in-Some.is at c.in_ok-found.ensures.state in
    c.requires.text ∙ sym (shape-run begin made).text ∙ ap (λ (s : State). s.text) (sym state)

pub race_text-requires-clause-writer : goal.race_text-requires-clause-writer
race_text-requires-clause-writer c =
    let begin = c.args.machine.now in
    let turns = c.args.log.now.turns in
    let found = c.in-Some.found in
    let state : c.first_race.new.machine ≡ run begin (take found.place turns) = rw c.in-Some.is at c.in_ok-found.ensures.state in
    subst (λ (s : State). found.turns.writer < length s.harts) (sym state)
    (told_harts c.args.but.now begin turns found (sym c.in_ok-found.ensures.race ∙ c.in-Some.is)).0

pub race_text-requires-clause-other : goal.race_text-requires-clause-other
race_text-requires-clause-other c =
    let begin = c.args.machine.now in
    let turns = c.args.log.now.turns in
    let found = c.in-Some.found in
    let state : c.first_race.new.machine ≡ run begin (take found.place turns) = rw c.in-Some.is at c.in_ok-found.ensures.state in
    subst (λ (s : State). found.turns.other < length s.harts) (sym state)
    (told_harts c.args.but.now begin turns found (sym c.in_ok-found.ensures.race ∙ c.in-Some.is)).1
