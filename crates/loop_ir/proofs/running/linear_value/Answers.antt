use Rattle.std.proofs.Common.{ℕ, List, ◌%◌, ◌^◌, ap, ◌∙◌}
use Rattle.halide_pipeline.specs.Words as word
use Rattle.loop_ir.specs.declared.expressions.Term.{Term}
use Rattle.loop_ir.specs.Counters.{values_of}
use Rattle.loop_ir.specs.Expressions.{linear_value, sum_of}
use Rattle.loop_ir.proofs.Sums.{number_more}
use Rattle.loop_ir.proofs.running.linear_value.Goals as goal

pub returns : goal.returns
unfolding linear_value
returns c =
    let values = values_of c.args.bindings.now in
    c.add.ensures
    ∙ ap (λ (k : ℕ). word.add c.args.sum.now.number k) (c.sum_of.ensures ∙ ap (λ (ts : List Term). sum_of values ts % 2 ^ 32) c.as_slice.ensures)
    ∙ number_more c.args.sum.now.number (sum_of values c.args.sum.now.terms)
