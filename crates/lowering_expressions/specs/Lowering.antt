-- Where the points of a definition lie in buffers, and what its variables stand for.
-- This project's own.
use Rattle.std.specs.Prelude.{ℕ, List, Option, Some, None, slice_get}
use Rattle.halide_pipeline.specs.declared.expressions.Source.{Source}
use Rattle.halide_pipeline.specs.declared.expressions.Source.TheVariants as sources
use Rattle.halide_pipeline.specs.Words as word
use Rattle.halide_pipeline.specs.declared.environments.Environment.{Environment}
use Rattle.halide_pipeline.specs.Pixel.{Reads}
use Rattle.halide_pipeline.specs.Points.{Point}
use Rattle.loop_ir.specs.Counters.{Values}
use Rattle.loop_ir.specs.Expressions.{linear_value}
use Rattle.lowering_expressions.specs.declared.calls.Corner.{Corner}
use Rattle.lowering_expressions.specs.declared.lowering.Arguments.{Arguments}

-- ---- points in buffers

-- a point, counted from a corner, if there is one
abbrev pub from_corner : Values → Option Corner → ℕ → ℕ → Source → Point
from_corner values None x y source = record { source = source; x = x; y = y }
from_corner values (Some corner) x y source =
    record { source = source; x = word.subtract x (linear_value values corner.x); y = word.subtract y (linear_value values corner.y) }

-- the corner of a source's buffer; those of inputs begin at 0, 0
abbrev pub corner_of : List Corner → Source → Option Corner
corner_of corners (sources.Input place) = None
corner_of corners (sources.Func place) = slice_get corners place

-- where a point of a source lies in its buffer
abbrev pub place : List Corner → Values → Point → Point
place corners values point = from_corner values (corner_of corners point.source) point.x point.y point.source

-- points are answered by what buffers hold where they lie
abbrev pub answered_at : Reads → Point → ℕ
answered_at reads point = reads point.source point.x point.y

unfoldable pub placed : List Corner → Values → Reads → Reads
placed corners values reads source x y = answered_at reads (place corners values (record { source = source; x = x; y = y }))

-- ---- variables

-- what the variables stand for
abbrev pub environment : Values → Arguments → Environment
environment values arguments = record {
  first_argument = linear_value values arguments.first_argument;
  second_argument = linear_value values arguments.second_argument;
  first_reduction = linear_value values arguments.first_reduction;
  second_reduction = linear_value values arguments.second_reduction;
}
