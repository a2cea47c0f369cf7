-- The program's commands: the values and the options that each has, and what `clap` is told of them.
use Rattle.std.specs.Prelude.{◌≡◌, ℕ, false, true, List, [], ◌∷◌, Some, codes, fold, map}
use Rattle.clap.specs.Lexer.{usize_max}
use Rattle.clap.specs.Simple.{on_top}
use Rattle.clap.specs.Words.{App, Rule, Text, app_of, new_app, new_rule, with_rule, with_subcommand}
use Rattle.clap.specs.declared.builder.action.ArgAction.TheVariants.{SetTrue}
use Rattle.clap.specs.declared.builder.command.Command.{Command}
use Rattle.clap.specs.declared.builder.command.Command.TheViews.{out-Command}
use Rattle.clap.specs.declared.builder.value_parser.ValueParser.TheVariants.{Unsigned}
use Rattle.hrv_command_line.specs.declared.table.Choice.{Choice}
use Rattle.hrv_command_line.specs.declared.table.OptionKind.{OptionKind}
use Rattle.hrv_command_line.specs.declared.table.OptionKind.TheVariants.{Every, Flag, Hart, Harts, Seed, Turn, Turns, Word}
use Rattle.hrv_command_line.specs.declared.table.ValueCount.{ValueCount}
use Rattle.hrv_command_line.specs.declared.table.ValueCount.TheVariants.{Always, AnyNumber, Perhaps}
use Rattle.hrv_command_line.specs.declared.table.CommandRow as code
use Rattle.hrv_command_line.specs.declared.table.Value.{Value}

-- ---- the table

-- how many harts a run may have, how many turns each, and how many of these at once where they are drawn; the last hart's number; and the
-- greatest seed or number of a turn
abbrev pub most_harts : ℕ
most_harts = 8

abbrev pub most_hart : ℕ
most_hart = 7

abbrev pub most_turns : ℕ
most_turns = 1099511627776

abbrev pub most_every : ℕ
most_every = 4096

abbrev pub most_number : ℕ
most_number = 18446744073709551615

-- a command by its name, with its values in their order, and its options
pub record Shape : Type 0 where
  pub name : Text
  pub values : List (Text × ValueCount)
  pub choices : List (Text × OptionKind)

abbrev pub commands : List Shape
commands =
    (record { name = codes "picture"; values = (codes "ALGORITHM", Always) ∷ (codes "INPUT", AnyNumber) ∷ []; choices = [] })
    ∷ (record {
      name = codes "compile";
      values = (codes "ALGORITHM", Always) ∷ (codes "SCHEDULE", Always) ∷ (codes "IMAGE", Always) ∷ (codes "INPUT", AnyNumber) ∷ [];
      choices = [];
    })
    ∷ (record { name = codes "map"; values = (codes "ALGORITHM", Always) ∷ (codes "SCHEDULE", Always) ∷ []; choices = [] })
    ∷ (record {
      name = codes "run";
      values = (codes "IMAGE", Always) ∷ (codes "LOG", Always) ∷ [];
      choices = (codes "harts", Harts) ∷ (codes "turns", Turns) ∷ (codes "from", Word) ∷ (codes "seed", Seed) ∷ (codes "every", Every)
          ∷ (codes "record", Word) ∷ [];
    })
    ∷ (record { name = codes "replay"; values = (codes "IMAGE", Always) ∷ (codes "LOG", Always) ∷ []; choices = [] })
    ∷ (record { name = codes "debug"; values = (codes "IMAGE", Always) ∷ (codes "LOG", Always) ∷ []; choices = [] })
    ∷ (record {
      name = codes "blame";
      values = (codes "IMAGE", Always) ∷ (codes "LOG", Always) ∷ (codes "X", Perhaps) ∷ (codes "Y", Perhaps) ∷ [];
      choices = (codes "address", Word) ∷ (codes "turns", Flag) ∷ [];
    })
    ∷ (record { name = codes "profile"; values = (codes "IMAGE", Always) ∷ (codes "LOG", Always) ∷ []; choices = [] })
    ∷ (record {
      name = codes "trace";
      values = (codes "IMAGE", Always) ∷ (codes "LOG", Always) ∷ [];
      choices = (codes "from", Turn) ∷ (codes "to", Turn) ∷ (codes "hart", Hart) ∷ (codes "address", Word) ∷ [];
    })
    ∷ (record { name = codes "races"; values = (codes "IMAGE", Always) ∷ (codes "LOG", Always) ∷ (codes "BUT", AnyNumber) ∷ []; choices = [] })
    ∷ (record { name = codes "log"; values = (codes "FILE", Always) ∷ (codes "LOG", Perhaps) ∷ []; choices = [] })
    ∷ (record { name = codes "digest"; values = (codes "FILE", Always) ∷ (codes "MORE", AnyNumber) ∷ []; choices = [] })
    ∷ (record { name = codes "verify"; values = (codes "RECORD", Always) ∷ (codes "IMAGE", Always) ∷ (codes "LOG", Always) ∷ []; choices = [] })
    ∷ (record { name = codes "asm"; values = (codes "SOURCE", Always) ∷ (codes "IMAGE", Always) ∷ []; choices = [] })
    ∷ (record { name = codes "dis"; values = (codes "IMAGE", Always) ∷ []; choices = (codes "addresses", Flag) ∷ [] })
    ∷ (record { name = codes "renew"; values = (codes "OLD", Always) ∷ (codes "NEW", Always) ∷ []; choices = [] })
    ∷ (record { name = codes "explain"; values = (codes "REFUSAL", AnyNumber) ∷ []; choices = [] })
    ∷ (record { name = codes "version"; values = []; choices = [] }) ∷ []

-- ---- a row of the program's table, without its words of help

abbrev pub value_of : Value → Text × ValueCount
value_of value = (value.name.now, value.need)

abbrev pub choice_of : Choice → Text × OptionKind
choice_of choice = (choice.name.now, choice.kind)

abbrev pub shape_of : code.CommandRow → Shape
shape_of row = record { name = row.name.now; values = map value_of row.values.now; choices = map choice_of row.choices.now }

-- ---- what `clap` is told

abbrev pub value_rule : Text × ValueCount → Rule
value_rule (name, Always) = record (new_rule name) { required = true }
value_rule (name, Perhaps) = new_rule name
value_rule (name, AnyNumber) = record (new_rule name) { range = Some (record { start_inclusive = 0; end_inclusive = usize_max }) }

abbrev pub choice_rule : Text × OptionKind → Rule
choice_rule (name, Flag) = record (new_rule name) { long = Some name; action = Some SetTrue }
choice_rule (name, Word) = record (new_rule name) { long = Some name; value_names = 1 }
choice_rule (name, Harts) = record (new_rule name) { long = Some name; value_names = 1; parser = Some (Unsigned 1 most_harts) }
choice_rule (name, Turns) = record (new_rule name) { long = Some name; value_names = 1; parser = Some (Unsigned 1 most_turns) }
choice_rule (name, Seed) = record (new_rule name) { long = Some name; value_names = 1; parser = Some (Unsigned 0 most_number) }
choice_rule (name, Turn) = record (new_rule name) { long = Some name; value_names = 1; parser = Some (Unsigned 0 most_number) }
choice_rule (name, Hart) = record (new_rule name) { long = Some name; value_names = 1; parser = Some (Unsigned 0 most_hart) }
choice_rule (name, Every) = record (new_rule name) { long = Some name; value_names = 1; parser = Some (Unsigned 1 most_every) }

abbrev pub with_value : App → Text × ValueCount → App
with_value app value = with_rule app (value_rule value)

abbrev pub with_choice : App → Text × OptionKind → App
with_choice app choice = with_rule app (choice_rule choice)

abbrev pub app_by : Shape → App
app_by shape = fold with_choice (fold with_value (new_app shape.name) shape.values) shape.choices

abbrev pub with_command : App → Shape → App
with_command app shape = with_subcommand app (app_by shape).top

-- the words are all arguments, and one of the subcommands has to be there
abbrev pub bare_app : App
bare_app = on_top (λ s. record s { no_binary_name = true; subcommand_required = true }) (new_app (codes "hrv"))

abbrev pub hrv_app : App
hrv_app = fold with_command bare_app commands

-- no argument of the command is another command's too
abbrev pub IsLocal : Command → Type 0
IsLocal command = (out-Command command).has_globals ≡ false

-- the command is the one that is described, and no argument of it is another command's too
pub record Makes (wanted : App) (command : Command) : Type 0 where
  pub app : app_of command ≡ wanted
  pub local : IsLocal command
