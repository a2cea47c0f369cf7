use Rattle.std.proofs.Common.{◌∙◌, ◌%◌, ◌^◌, ap, refl, sym}
use Rattle.task_code_registers.specs.Strides.{has_counter, strides}
use Rattle.task_code_vector_loops.proofs.Going.{sum-further, sum-stays}
use Rattle.task_code_vector_loops.proofs.further.sum_further.Goals as goal

pub returns-then-stride-eq0 : goal.returns-then-stride-eq0
returns-then-stride-eq0 c =
    sum-stays c.args.own_further c.args.sum.now c.in_ok-new_sum.new_sum c.stride_of-stride.result
    (sym (ap (has_counter c.args.own_further.by) c.as_slice.ensures) ∙ sym c.has_term.ensures ∙ c.if-has_term.false)
    (c.stride_of-stride.ensures ∙ ap (λ ts. strides c.args.own_further.counter ts % 2 ^ 32) c.as_slice-2.ensures) c.in_ok-new_sum.ensures c.if-stride-eq0.true

pub returns : goal.returns
returns c =
    sum-further c.args.own_further c.args.sum.now _ c.stride_of-stride.result
    (sym (ap (has_counter c.args.own_further.by) c.as_slice.ensures) ∙ sym c.has_term.ensures ∙ c.if-has_term.false)
    (c.stride_of-stride.ensures ∙ ap (λ ts. strides c.args.own_further.counter ts % 2 ^ 32) c.as_slice-2.ensures)
    c.in_ok-new_sum.new_sum c.in_ok-new_sum.ensures refl c.in_ok-push.ensures.ok
