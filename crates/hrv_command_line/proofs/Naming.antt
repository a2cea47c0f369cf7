-- The command of a name, and what it is given.
use Rattle.std.proofs.Common.{◌≡◌, ◌∙◌, true≢false, refl, sym, ap, List, ◌∷◌, Option, Some, None, option_map}
use Rattle.std.specs.Prelude.{Result, Ok, Err, IfOk, is_some, option_and_then, unwrap_or}
use Rattle.clap.specs.Words.{Text}
use Rattle.hrv_command_line.specs.CommandLine.{Asked, Given, asked_by, asked_of, command_named, named_in, nothing_given, read}
use Rattle.hrv_command_line.specs.Commands.{Shape, commands}
use Rattle.hrv_command_line.specs.declared.command_lines.Invocation.{Invocation}
use Rattle.hrv_command_line.specs.declared.table.OptionKind.{OptionKind}

abbrev choices_in : Option Shape → Option (List (Text × OptionKind))
choices_in o = option_map (λ (s : Shape). s.choices) o

abbrev asked_in : Text → List Text → Option Shape → Option Asked
asked_in name words o = option_and_then (λ (s : Shape). option_and_then (asked_of name) (read s.choices None words nothing_given)) o

pub no_command : (name : Text) (words : List Text) → None ≡ choices_in (command_named name commands) → None ≡ named_in (name ∷ words)
no_command name words none = go (command_named name commands) none
  where
    go : (o : Option Shape) → None ≡ choices_in o → None ≡ asked_in name words o
    go None e = refl
    go (Some s) e = absurd (true≢false (sym (ap is_some e)))

pub command_given : (name : Text) (words : List Text) (choices : List (Text × OptionKind)) (given : Option Given)
    → Some choices ≡ choices_in (command_named name commands) → given ≡ read choices None words nothing_given
    → option_and_then (asked_of name) given ≡ named_in (name ∷ words)
command_given name words choices given is gives = go (command_named name commands) is
  where
    go : (o : Option Shape) → Some choices ≡ choices_in o → option_and_then (asked_of name) given ≡ asked_in name words o
    go None e = absurd (true≢false (ap is_some e))
    go (Some s) e =
        ap (option_and_then (asked_of name)) (gives ∙ ap (λ cs. read cs None words nothing_given) (ap (λ o. unwrap_or o choices) e))

pub asks_so : {E : Type 0} (result : Result (Option Invocation) E) (here there : Option Asked) → here ≡ there
    → IfOk result (λ found. option_map asked_by found ≡ here) → IfOk result (λ found. option_map asked_by found ≡ there)
asks_so (Err e) here there same asks = tt
asks_so (Ok found) here there same asks = asks ∙ same
