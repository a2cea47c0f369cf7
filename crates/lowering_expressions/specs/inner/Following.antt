-- What an expression of loops has of a part of a definition. Words of private functions.
-- This project's own.
use Rattle.std.specs.Prelude.{◌≡◌, Bool, List, [], ◌++◌}
use Rattle.halide_pipeline.specs.declared.expressions.Variable.{Variable}
use Rattle.halide_pipeline.specs.declared.expressions.Variable.TheVariants as variables
use Rattle.halide_pipeline.specs.Pixel.{Reads}
use Rattle.halide_pipeline.specs.Points.{Point, Seen, Hold}
use Rattle.bounds_inlining.specs.Inlining.{Algebra}
use Rattle.bounds_inlining.specs.Values.{seeing}
use Rattle.loop_ir.specs.Counters.{Values}
use Rattle.loop_ir.specs.Expressions.{value, loads}
use Rattle.loop_ir.specs.declared.expressions.Expr.{Expr}
use Rattle.lowering_expressions.specs.declared.calls.Corner.{Corner}
use Rattle.lowering_expressions.specs.declared.lowering.Terms.{Terms}
use Rattle.lowering_expressions.specs.Lowering.{place, placed}

-- where the reads of a definition are answered by buffers
abbrev pub algebra : List Corner → Values → Reads → Algebra Seen
algebra corners values reads = seeing (placed corners values reads)

-- It has the value that is seen, and what it loads are points that are seen, where they lie, or that are given.
pub record Follows (corners : List Corner) (values : Values) (reads : Reads) (given : List Point) (new_expression : Expr) (own_seen : Seen) : Type 0 where
  pub same : value reads values new_expression ≡ own_seen.value
  pub holds : (test : Point → Bool) → Hold test given → Hold (λ point. test (place corners values point)) own_seen.points → Hold test (loads reads values new_expression)

-- what is seen of an expression that stands for a variable
abbrev pub stands : Reads → Values → Expr → Seen
stands reads values e = record { value = value reads values e; points = [] }

abbrev pub standing : Reads → Values → Expr → Expr → Expr → Expr → Variable → Seen
standing reads values a b c d variables.FirstArgument = stands reads values a
standing reads values a b c d variables.SecondArgument = stands reads values b
standing reads values a b c d variables.FirstReduction = stands reads values c
standing reads values a b c d variables.SecondReduction = stands reads values d

abbrev pub variable_terms : Reads → Values → Terms → Variable → Seen
variable_terms reads values terms v = standing reads values terms.first_argument.now terms.second_argument.now terms.first_reduction.now terms.second_reduction.now v

-- what they load
abbrev pub loaded_by : Reads → Values → Expr → Expr → Expr → Expr → List Point
loaded_by reads values a b c d = loads reads values a ++ (loads reads values b ++ (loads reads values c ++ loads reads values d))

abbrev pub term_loads : Reads → Values → Terms → List Point
term_loads reads values terms = loaded_by reads values terms.first_argument.now terms.second_argument.now terms.first_reduction.now terms.second_reduction.now
