-- What a loop over reads keeps.
use Rattle.std.proofs.Common.{◌≡◌, ℕ, Bool, List, Option}
use Rattle.halide_pipeline.specs.declared.expressions.Source.{Source}
use Rattle.bounds_ranges.specs.declared.expressions.ReadRange.{ReadRange}
use Rattle.bounds_ranges.specs.Expressions.{AreFitReads}
use Rattle.bounds.specs.declared.boxes.ConsumerLoop.{ConsumerLoop}
use Rattle.bounds.specs.declared.boxes.Spread.{Spread}
use Rattle.bounds.specs.Boxes.{lasts_of, gathered, IsSpread}

pub record IsGathering (consumer : Option ConsumerLoop) (lasts : List ℕ) (source : Source) (first second : Bool) (spread : Spread) (asked : List ReadRange)
    (found_spread : Spread) (rest : List ReadRange) : Type 0 where
  pub same : gathered consumer lasts source first second found_spread rest ≡ gathered consumer lasts source first second spread asked
  pub fits : IsSpread (lasts_of consumer) found_spread
  pub reads : AreFitReads lasts rest
