-- Slices of a plane, as the evaluator runs an update on them. Nothing here is to be believed: the contract
-- of `evaluate` doesn't speak of it.
-- This project's own.
use Rattle.std.specs.Prelude.{ℕ, Bool, false, not, ◌==◌, ◌&&◌, ◌||◌, Option, Some, None}
use Rattle.halide_pipeline.specs.declared.expressions.Expr.{Expr}
use Rattle.halide_pipeline.specs.declared.expressions.Variable.{Variable}
use Rattle.halide_pipeline.specs.declared.expressions.Variable.TheVariants as variables
use Rattle.halide_pipeline.specs.declared.definitions.Update.{Update}
use Rattle.halide_pipeline.specs.WellFormed.{is_first_in_place, is_second_in_place}
use Rattle.halide_pipeline.specs.Expressions.{uses}
use Rattle.picture.specs.declared.scenes.Slice.{Slice}

-- a point whose arguments in place have the slice's values
abbrev pub is_on : Slice → ℕ → ℕ → Bool
is_on slice x y = (not slice.is_first_in_place || x == slice.x) && (not slice.is_second_in_place || y == slice.y)

abbrev pub index_uses : Variable → Option Expr → Bool
index_uses variable None = false
index_uses variable (Some index) = uses variable index

-- the variable occurs anywhere in the update
abbrev pub mentions : Variable → Update → Bool
mentions variable update = uses variable update.left_x || index_uses variable update.left_y || uses variable update.right

-- an argument that isn't in place occurs nowhere, so that the update can be run forward
abbrev pub is_forward : Update → Bool
is_forward update =
    (is_first_in_place update || not (mentions variables.FirstArgument update))
    && (is_second_in_place update || not (mentions variables.SecondArgument update))
