-- What a call comes to where its indexes have been gone through.
-- This project's own.
use Rattle.std.specs.Prelude.{ℕ, Bool, List, [], ◌∷◌, Some}
use Rattle.halide_pipeline.specs.declared.definitions.Func.{Func}
use Rattle.halide_pipeline.specs.declared.definitions.Input.{Input}
use Rattle.halide_pipeline.specs.declared.expressions.Source.{Source}
use Rattle.bounds_inlining.specs.Inlining.{answer, answered, inside, flagged}
use Rattle.bounds_ranges.specs.declared.ranges.Range.{Range}
use Rattle.bounds_ranges.specs.Expressions.{Ranged, ranging, called, unasked}

-- what a call comes to, of whose indexes nothing is asked
abbrev pub answer_of : List ℕ → List Input → List Bool → List Func → ℕ → Source → Range → Range → Ranged
answer_of lasts inputs flags funcs count source x y =
    answered (record {
      range = called inputs source;
      asked = record { source = source; x = x; y = y }
          ∷ [];
    }) (unasked x) (Some (unasked y)) (answer (inside (ranging lasts inputs) (flagged flags) funcs count) source)
