-- What a pipeline holds.
-- This project's own.
use Rattle.std.specs.Prelude.{List, ℕ, Bool, false, [], ◌∷◌, map, Option, Some, None, if◌then◌else◌, Vec}
use Rattle.std.specs.Str.{bytes_eq}
use Rattle.std.specs.declared.alloc.Global.{Global}
use Rattle.halide_pipeline.specs.declared.definitions.Func.{Func}
use Rattle.halide_pipeline.specs.declared.definitions.Input.{Input}
use Rattle.halide_pipeline.specs.declared.definitions.Output.{Output}
use Rattle.halide_pipeline.specs.declared.expressions.Source.{Source}

-- ---- Names with what they stand for, in order.

-- a name and what it stands for
abbrev pub Named : Type 0
Named = List ℕ × Source

abbrev pub pairs_of : List (Vec ℕ Global × Source) → List Named
pairs_of entries = map (λ entry. (entry.0.items, entry.1)) entries

-- what a name stands for: the first that has it
abbrev pub lookup : List ℕ → List Named → Option Source
lookup name [] = None
lookup name (named ∷ others) = if bytes_eq name named.0 then Some named.1 else lookup name others

-- There is a name, and it is this one.
abbrev pub is_named : Option (List ℕ) → List ℕ → Bool
is_named None name = false
is_named (Some own) name = bytes_eq own name

-- ---- pipelines

-- The names of the inputs and Funcs, the inputs and the Funcs in the order of the text, and the output.
pub record Pipeline : Type 0 where
  pub names : List Named
  pub inputs : List Input
  pub funcs : List Func
  pub output : Output
