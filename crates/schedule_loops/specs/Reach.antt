-- What the loops of a stage add to a variable: while loops outside have given iterations, it goes from a base to that base and what the loops
-- inside can add. A loop adds its iteration's number times its stride. Where an uneven loop over the variable is among those outside, it lies in its
-- whole extent.
-- This project's own.
use Rattle.std.specs.Prelude.{◌≡◌, ◌≤◌, ℕ, ◌+◌, ◌-◌, ◌*◌, Bool, true, ◌&&◌, if◌then◌else◌, List, [], ◌∷◌}
use Rattle.std.specs.List.{list_any}
use Rattle.halide_pipeline.specs.declared.expressions.Variable.{Variable}
use Rattle.halide_pipeline.specs.Expressions.{same_variable}
use Rattle.schedule_lines.specs.declared.stages.Loop.{Loop}
use Rattle.schedule_lines.specs.declared.stages.LoopId.TheVariants as ids
use Rattle.schedule_lines.specs.declared.stages.Split.{Split}
use Rattle.schedule_lines.specs.Making.{total}
use Rattle.schedule_loops.specs.declared.extents.Extents.{Extents}
use Rattle.schedule_loops.specs.Visits.{Values, counts, strides, is_uneven, nest, over_loops}

-- what loops over a variable add to it in these iterations
abbrev pub base : List Split → Variable → Values → List Loop → ℕ
base splits variable iterations loops = total (λ own. if same_variable own.variable variable then strides splits own.id * iterations own.id else 0) loops

-- the most that a loop can add to a variable
abbrev pub most_added : Extents → List Split → Variable → Loop → ℕ
most_added extents splits variable stage_loop = if same_variable stage_loop.variable variable then strides splits stage_loop.id * (counts extents splits stage_loop.id - 1) else 0

-- the most that loops can
abbrev pub reach : Extents → List Split → Variable → List Loop → ℕ
reach extents splits variable loops = total (most_added extents splits variable) loops

-- One of the loops is an uneven one over the variable.
abbrev pub has_uneven : List Split → Variable → List Loop → Bool
has_uneven splits variable loops = list_any (λ own. same_variable own.variable variable && is_uneven splits own.id) loops

-- the values of whole variables that loops visit, while those outside of them are in these iterations
abbrev pub wholes : Extents → List Split → List Loop → Values → List Values
wholes extents splits inside iterations = nest (counts extents splits) inside (over_loops extents splits (λ whole. whole ∷ [])) iterations

-- The variable lies between the base of loops outside and what those inside can add to it.
pub record IsReached (extents : Extents) (splits : List Split) (variable : Variable) (inside outside : List Loop) (iterations whole : Values) : Type 0 where
  pub low : base splits variable iterations outside ≤ whole (ids.Whole variable)
  pub high : whole (ids.Whole variable) ≤ base splits variable iterations outside + reach extents splits variable inside

-- In both lists uneven loops have the same iterations.
abbrev pub AgreeWhereUneven : List Split → List Loop → Values → Values → Type 0
AgreeWhereUneven splits [] one other = Unit {0}
AgreeWhereUneven splits (own ∷ others) one other = (is_uneven splits own.id ≡ true → one own.id ≡ other own.id) × AgreeWhereUneven splits others one other
