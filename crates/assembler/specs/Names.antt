-- Labels with their names, in order.
-- This project's own.
use Rattle.std.specs.Prelude.{ℕ, List, [], ◌∷◌, Option, Some, None, if◌then◌else◌}
use Rattle.std.specs.Str.{bytes_eq}
use Rattle.assembler.specs.declared.labels.Label.{Label}

-- a name and what it stands for
abbrev pub Named : Type 0
Named = List ℕ × Label

-- the label of a name: the first that has it
abbrev pub label_named : List Named → List ℕ → Option Label
label_named [] name = None
label_named (named ∷ others) name = if bytes_eq name named.0 then Some named.1 else label_named others name
