use Rattle.std.proofs.Common.{ℕ, ap, ◌∙◌}
use Rattle.halide_pipeline.specs.Words as word
use Rattle.loop_ir.specs.Expressions.{linear_value}
use Rattle.task_code_clamps.proofs.steps.with_more.Goals as goal

pub returns : goal.returns
returns c = λ values. c.plus_number.ensures.value values ∙ ap (λ (n : ℕ). word.add n c.args.more) (ap (linear_value values) c.in_ok-copied.ensures)
