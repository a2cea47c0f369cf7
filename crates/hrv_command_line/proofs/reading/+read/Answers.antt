use Rattle.std.proofs.Common.{◌∙◌, ◌-◌, ap, sym, length, take, drop, map, option_map, Some, None, true, false}
use Rattle.clap.specs.Walk.{texts}
use Rattle.hrv_command_line.specs.CommandLine.{Awaits, Chooses, Gives, Marks, Strays, choose, read}
use Rattle.hrv_command_line.specs.Commands.{choice_of}
use Rattle.hrv_command_line.specs.inner.Readings.{given_of}
use Rattle.hrv_command_line.proofs.Fronts.{front_and_rest, no_front}
use Rattle.hrv_command_line.proofs.WordByWord.{ended_by, is_given, none_left, on_to, one_on}
use Rattle.hrv_command_line.proofs.reading.+read.Goals as goal

pub returns-in-empty : goal.returns-in-empty
returns-in-empty t c =
    none_left (map choice_of c.args.choices.now) (option_map (λ s. s.now) c.args.awaited) c.args.words.now (given_of c.args.given.now)
    (no_front c.args.words.now c.in-empty.len_below)
    ∙ ended_by c.args.awaited (given_of c.args.given.now) c.is_none.result c.is_none.ensures

pub returns-in_ok-add_values-in-Marks : goal.returns-in_ok-add_values-in-Marks
returns-in_ok-add_values-in-Marks t c =
    one_on (map choice_of c.args.choices.now) (option_map (λ s. s.now) c.args.awaited) c.args.words.now _ _ (given_of c.args.given.now) Marks
    (front_and_rest c.args.words.now _ c.in-len1-up.len_at_least) c.in-Marks.ensures
    ∙ ap (λ g. Some g) (sym c.in_ok-add_values-in-Marks.ensures)

pub returns-in_ok-add_value-in-Gives : goal.returns-in_ok-add_value-in-Gives
returns-in_ok-add_value-in-Gives t c =
    let choices = map choice_of c.args.choices.now in
    let rest = texts (take (length c.args.words.now - 1) (drop 1 c.args.words.now)) in
    on_to c.read.result _ _ (given_of c.read.new.given)
    (one_on choices (option_map (λ s. s.now) c.args.awaited) c.args.words.now _ _ (given_of c.args.given.now) Gives
    (front_and_rest c.args.words.now _ c.in-len1-up.len_at_least) c.in-Gives.ensures
    ∙ ap (λ g. read choices None rest g) (sym c.in_ok-add_value-in-Gives.ensures)) c.read.ensures

pub returns-in-Awaits : goal.returns-in-Awaits
returns-in-Awaits t c =
    on_to c.read-in-Awaits.result _ _ (given_of c.read-in-Awaits.new.given)
    (one_on (map choice_of c.args.choices.now) (option_map (λ s. s.now) c.args.awaited) c.args.words.now _ _ (given_of c.args.given.now)
    (Awaits c.in-Awaits.name.now) (front_and_rest c.args.words.now _ c.in-len1-up.len_at_least) c.in-Awaits.ensures) c.read-in-Awaits.ensures

pub returns-then-is_some : goal.returns-then-is_some
returns-then-is_some t c =
    let choices = map choice_of c.args.choices.now in
    let rest = texts (take (length c.args.words.now - 1) (drop 1 c.args.words.now)) in
    let name = c.in-Chooses.chosen.name.now in
    let text = c.in-Chooses.chosen.text.now in
    one_on choices (option_map (λ s. s.now) c.args.awaited) c.args.words.now _ _ (given_of c.args.given.now) (Chooses name text)
    (front_and_rest c.args.words.now _ c.in-len1-up.len_at_least) c.in-Chooses.ensures
    ∙ ap (λ b. choose (λ more. read choices None rest more) b name text (given_of c.args.given.now))
    (is_given c.text_of.result name c.as_slice.result.now c.args.given.now.choices.items true c.text_of.ensures c.as_slice.ensures.value c.if-is_some.ensures)

pub returns-in_ok-add_choice-in-Chooses : goal.returns-in_ok-add_choice-in-Chooses
returns-in_ok-add_choice-in-Chooses t c =
    let choices = map choice_of c.args.choices.now in
    let rest = texts (take (length c.args.words.now - 1) (drop 1 c.args.words.now)) in
    let name = c.in-Chooses.chosen.name.now in
    let text = c.in-Chooses.chosen.text.now in
    on_to c.read-in-Chooses.result _ _ (given_of c.read-in-Chooses.new.given)
    (one_on choices (option_map (λ s. s.now) c.args.awaited) c.args.words.now _ _ (given_of c.args.given.now) (Chooses name text)
    (front_and_rest c.args.words.now _ c.in-len1-up.len_at_least) c.in-Chooses.ensures
    ∙ ap (λ b. choose (λ more. read choices None rest more) b name text (given_of c.args.given.now))
    (is_given c.text_of.result name c.as_slice.result.now c.args.given.now.choices.items false c.text_of.ensures c.as_slice.ensures.value c.if-is_some.ensures)
    ∙ ap (λ g. read choices None rest g) (sym c.in_ok-add_choice-in-Chooses.ensures)) c.read-in-Chooses.ensures

pub returns-in-Strays : goal.returns-in-Strays
returns-in-Strays t c =
    one_on (map choice_of c.args.choices.now) (option_map (λ s. s.now) c.args.awaited) c.args.words.now _ _ (given_of c.args.given.now) Strays
    (front_and_rest c.args.words.now _ c.in-len1-up.len_at_least) c.in-Strays.ensures
