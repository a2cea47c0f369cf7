use Rattle.std.proofs.Common.{◌∙◌, ap, ◌%◌, ◌^◌}
use Rattle.task_code_registers.specs.Strides.{strides}
use Rattle.task_code_statements.proofs.Guarding.{left-is-of}
use Rattle.task_code_statements.proofs.guards.left_of.Goals as goal

pub returns : goal.returns
returns c =
    left-is-of c.args.bounds.now c.args.counter c.args.guard.now c.in_ok-sum.sum c.of_number-extent.result c.in_ok-start.start
    c.stride_of-stride.result c.of_number-extent.ensures.value c.in_ok-sum.ensures.value
    (c.stride_of-stride.ensures ∙ ap (λ ts. strides c.args.counter ts % 2 ^ 32) c.as_slice.ensures) c.if-stride-eq0.false
    c.if-stride-gt-MOST_STRIDE.false c.if-guard-gt-MOST_EXTENT.false
    c.in_ok-start.ensures (c.is_below.ensures c.if-not-is_below.false)
