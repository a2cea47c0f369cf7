use Rattle.std.proofs.Common.{◌∙◌, ◌%◌, ◌^◌, ap}
use Rattle.task_code_registers.specs.Strides.{strides}
use Rattle.task_code_statements.proofs.Standing.{rest-made, sum-made}
use Rattle.task_code_statements.proofs.replacing.sum_with.Goals as goal

pub returns : goal.returns
returns c =
    sum-made c.args.replacement.now c.args.sum.now c.in_ok-rest.rest c.stride_of-stride.result c.in_ok-product.product c.in_ok-expression.expression
    (c.stride_of-stride.ensures ∙ ap (λ l. strides c.args.replacement.now.counter l % 2 ^ 32) c.as_slice.ensures) c.in_ok-product.ensures c.in_ok-rest.ensures
    c.in_ok-expression.ensures

pub returns-then-stride-eq0 : goal.returns-then-stride-eq0
returns-then-stride-eq0 c =
    rest-made c.args.replacement.now c.args.sum.now c.in_ok-rest.rest c.stride_of-stride.result
    (c.stride_of-stride.ensures ∙ ap (λ l. strides c.args.replacement.now.counter l % 2 ^ 32) c.as_slice.ensures) c.if-stride-eq0.true c.in_ok-rest.ensures
