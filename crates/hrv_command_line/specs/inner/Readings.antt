-- What the code reads, as the values that `CommandLine` speaks of.
use Rattle.std.specs.Prelude.{map}
use Rattle.clap.specs.Walk.{texts}
use Rattle.clap.specs.Words.{Text}
use Rattle.hrv_command_line.specs.CommandLine as spec
use Rattle.hrv_command_line.specs.declared.reading.Chosen.{Chosen}
use Rattle.hrv_command_line.specs.declared.reading.Given.{Given}
use Rattle.hrv_command_line.specs.declared.reading.WordMeaning.{WordMeaning}
use Rattle.hrv_command_line.specs.declared.reading.WordMeaning.TheVariants.{Marks, Gives, Awaits, Chooses, Strays}

abbrev pub chosen_of : Chosen → Text × Text
chosen_of chosen = (chosen.name.now, chosen.text.now)

abbrev pub given_of : Given → spec.Given
given_of given = record { values = texts given.values.items; choices = map chosen_of given.choices.items }

abbrev pub meaning_as : WordMeaning → spec.Meaning
meaning_as Marks = spec.Marks
meaning_as Gives = spec.Gives
meaning_as (Awaits name) = spec.Awaits name.now
meaning_as (Chooses chosen) = spec.Chooses chosen.name.now chosen.text.now
meaning_as Strays = spec.Strays
