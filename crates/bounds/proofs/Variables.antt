-- Variables whose ranges stay within the words.
use Rattle.std.proofs.Common.{List, ℕ}
use Rattle.halide_pipeline.specs.declared.expressions.Variable.TheVariants as variables
use Rattle.bounds_ranges.specs.declared.expressions.Variables.{Variables}
use Rattle.bounds_ranges.specs.Expressions.{AreFit}
use Rattle.bounds_ranges.specs.Ranges.{IsFit}

pub are_fit : (lasts : List ℕ) (given : Variables) → IsFit lasts given.first_argument → IsFit lasts given.second_argument → IsFit lasts given.first_reduction
    → IsFit lasts given.second_reduction
    → AreFit lasts given
are_fit lasts given x y r s variables.FirstArgument = x
are_fit lasts given x y r s variables.SecondArgument = y
are_fit lasts given x y r s variables.FirstReduction = r
are_fit lasts given x y r s variables.SecondReduction = s
