-- A number and a sum load nothing.
use Rattle.std.proofs.Common.{◌≡◌, ℕ, [], ap, ◌∙◌}
use Rattle.halide_pipeline.specs.Pixel.{Reads}
use Rattle.halide_pipeline.specs.Points.{Seen}
use Rattle.loop_ir.specs.declared.expressions.Expr.{Expr}
use Rattle.loop_ir.specs.declared.expressions.Expr.TheVariants as e
use Rattle.loop_ir.specs.declared.expressions.Linear.{Linear}
use Rattle.loop_ir.specs.Counters.{Values}
use Rattle.loop_ir.specs.Expressions.{loads, seen, seen_at}
use Rattle.loop_ir.proofs.Folds.{at_number, at_linear}

no-loads-number : (reads : Reads) (values : Values) (n : ℕ) → loads reads values (e.Number n) ≡ []
unfolding seen
no-loads-number reads values n = ap (λ (s : Seen). s.points) (at_number Seen (seen_at reads values) n)

no-loads-linear : (reads : Reads) (values : Values) (new_sum : Linear) → loads reads values (e.Linear new_sum) ≡ []
unfolding seen
no-loads-linear reads values new_sum = ap (λ (s : Seen). s.points) (at_linear Seen (seen_at reads values) new_sum)

pub leaf-number : (expression : Expr) (n : ℕ) → expression ≡ e.Number n → (reads : Reads) (values : Values) → loads reads values expression ≡ []
leaf-number expression n is reads values = ap (λ x. loads reads values x) is ∙ no-loads-number reads values n

pub leaf-linear : (expression : Expr) (sum : Linear) → expression ≡ e.Linear sum → (reads : Reads) (values : Values) → loads reads values expression ≡ []
leaf-linear expression sum is reads values = ap (λ x. loads reads values x) is ∙ no-loads-linear reads values sum
