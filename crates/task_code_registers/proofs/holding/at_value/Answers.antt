use Rattle.std.proofs.Common.{ap, ◌∙◌, ◌++◌, ◌%◌, ◌^◌, refl}
use Rattle.halide_pipeline.specs.Words as word
use Rattle.task_code_registers.specs.Strides.{strides, others_of}
use Rattle.task_code_registers.proofs.Striding.{form-at}
use Rattle.task_code_registers.proofs.holding.at_value.Goals as goal

pub returns : goal.returns
returns c =
    form-at c.args.counter c.args.value c.stride_of-stride.result c.args.form.now _
    (c.stride_of-stride.ensures ∙ ap (λ ts. strides c.args.counter ts % 2 ^ 32) c.as_slice-2.ensures)
    (c.in_ok-other_terms.ensures ∙ ap (λ l. l ++ others_of c.args.counter c.as_slice.result.now) c.in_ok-terms.ensures
    ∙ ap (others_of c.args.counter) c.as_slice.ensures)
    (c.add-number.ensures ∙ ap (word.add c.args.form.now.sum.number) c.multiply-far.ensures) refl
