use Rattle.std.proofs.Common.{ap, ◌∙◌}
use Rattle.halide_pipeline.specs.declared.expressions.Expr.TheVariants as exprs
use Rattle.halide_pipeline.specs.declared.expressions.Variable.{Variable}
use Rattle.halide_pipeline.specs.declared.expressions.Variable.TheVariants as variables
use Rattle.picture.proofs.PixelRows.{variable-alone}
use Rattle.picture.proofs.in_place.is_first.Goals as goal

pub returns-in-Variable : goal.returns-in-Variable
returns-in-Variable c = λ alone reads point.
    variable-alone reads point c.args.expr.now variables.FirstArgument (c.in-Variable.is
    ∙ ap (λ (v : Variable). exprs.Variable v) (c.is_first_argument.ensures alone))
