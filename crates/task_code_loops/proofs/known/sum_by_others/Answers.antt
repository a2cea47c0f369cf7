use Rattle.std.proofs.Common.{◌∙◌, ◌+◌, ◌%◌, ◌^◌, ap, refl}
use Rattle.loop_ir.specs.declared.expressions.Linear.{Linear}
use Rattle.loop_ir.specs.Expressions.{linear_value, sum_of}
use Rattle.task_code_loops.proofs.Rewriting.{sum-rewritten}
use Rattle.task_code_loops.proofs.known.sum_by_others.Goals as goal

pub returns : goal.returns
returns c =
    let start : Linear = record { number = c.args.new_sum.now.number; terms = c.in_ok-terms.terms } in
    sum-rewritten c.args.known.now c.args.new_sum.now _ start refl c.in_ok-terms.ensures
    (λ values are. c.in_ok-add_known.ensures values are ∙ ap (λ ts. (linear_value values start + sum_of values ts) % 2 ^ 32) c.as_slice.ensures)
