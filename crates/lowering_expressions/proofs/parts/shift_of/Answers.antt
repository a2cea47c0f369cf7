use Rattle.std.proofs.Common.{ap, ◌∙◌}
use Rattle.halide_pipeline.specs.declared.expressions.Operation.{Operation}
use Rattle.halide_pipeline.specs.Words as word
use Rattle.loop_ir.specs.declared.expressions.Expr.{Expr}
use Rattle.loop_ir.specs.Expressions.{value}
use Rattle.lowering_expressions.proofs.Following.{number_value, subtract_is}
use Rattle.lowering_expressions.proofs.parts.shift_of.Goals as goal

pub returns-in-Add : goal.returns-in-Add
returns-in-Add c = λ reads values x.
    ap (λ (op : Operation). word.applied op x (value reads values c.args.right.now)) c.in-Add.is
    ∙ ap (λ (e : Expr). word.add x (value reads values e)) c.in-Number.is ∙ ap (word.add x) (number_value reads values c.in-Number.number)

pub returns-in-Subtract : goal.returns-in-Subtract
returns-in-Subtract c = λ reads values x.
    ap (λ (op : Operation). word.applied op x (value reads values c.args.right.now)) c.in-Subtract.is
    ∙ ap (λ (e : Expr). word.subtract x (value reads values e)) c.in-Number.is ∙ ap (word.subtract x) (number_value reads values c.in-Number.number)
    ∙ subtract_is x c.in-Number.number c.subtract.result c.subtract.ensures
