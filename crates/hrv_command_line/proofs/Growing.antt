-- A command that grows by a part for each item of a list.
use Rattle.std.proofs.Common.{◌≡◌, ◌∙◌, ◌||◌, false, ap, ap₂, sym, subst, List, ◌∷◌, map}
use Rattle.std.specs.Prelude.{Result, Ok, Err, IfOk, fold}
use Rattle.clap.specs.Words.{AddsArg, AddsSubcommand, App, Rule, app_of, rule_of, with_rule, with_subcommand}
use Rattle.clap.specs.declared.builder.arg.Arg.{Arg}
use Rattle.clap.specs.declared.builder.command.Command.{Command}
use Rattle.hrv_command_line.specs.Commands.{IsLocal, Makes, Shape, app_by, with_command}

pub all_grow : {E C X : Type 0} (view : C → X) (with : App → X → App) (result : Result Command E) (old grown : Command) (items rest : List C) (item : C)
    → items ≡ item ∷ rest → (IsLocal old → Makes (with (app_of old) (view item)) grown)
    → IfOk result (λ made. IsLocal grown → Makes (fold with (app_of grown) (map view rest)) made)
    → IfOk result (λ made. IsLocal old → Makes (fold with (app_of old) (map view items)) made)
all_grow view with (Err e) old grown items rest item split one others = tt
all_grow view with (Ok made) old grown items rest item split one others = λ local.
    let first = one local in
    let last = others first.local in
    subst (λ app. Makes app made)
    (ap (λ app. fold with app (map view rest)) first.app ∙ ap (λ is. fold with (app_of old) (map view is)) (sym split)) last

-- an argument that isn't of other commands too
pub argument_added : {E : Type 0} (result : Result Command E) (old : Command) (arg : Arg) (rule : Rule) → rule_of arg ≡ rule → arg.global ≡ false
    → IfOk result (AddsArg old arg) → IfOk result (λ made. IsLocal old → Makes (with_rule (app_of old) rule) made)
argument_added (Err e) old arg rule is own adds = tt
argument_added (Ok made) old arg rule is own adds = λ local. record {
  app = adds.shape own ∙ ap (with_rule (app_of old)) is;
  local = adds.globals ∙ ap₂ (λ a b. a || b) local own;
}

-- a subcommand
pub command_added : {E : Type 0} (result : Result Command E) (old own : Command) (shape : Shape) → Makes (app_by shape) own
    → IfOk result (AddsSubcommand old own) → IfOk result (λ made. IsLocal old → Makes (with_command (app_of old) shape) made)
command_added (Err e) old own shape is adds = tt
command_added (Ok made) old own shape is adds = λ local. record {
  app = adds.shape is.local ∙ ap (λ (a : App). with_subcommand (app_of old) a.top) is.app;
  local = adds.globals ∙ ap₂ (λ a b. a || b) local is.local;
}
