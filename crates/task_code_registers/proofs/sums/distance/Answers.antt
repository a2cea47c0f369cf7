use Rattle.std.proofs.Common.{◌<◌, ◌%◌, ◌^◌, ◌≡◌, ap, ◌∙◌, sym, arith}
use Rattle.loop_ir.specs.Counters.{Values}
use Rattle.loop_ir.specs.Expressions.{sum_of}
use Rattle.task_code_registers.proofs.Summing.{form-apart, difference-word}
use Rattle.task_code_registers.proofs.sums.distance.Goals as goal

pub returns-then-are_same : goal.returns-then-are_same
returns-then-are_same c =
    let small : c.args.base.now.sum.number < 2 ^ 32 = omega arith in
    let same : (values : Values) → sum_of values c.args.form.now.sum.terms % 2 ^ 32 ≡ sum_of values c.args.base.now.sum.terms % 2 ^ 32 =
    λ values.
    ap (λ ts. sum_of values ts % 2 ^ 32) (sym c.as_slice.ensures) ∙ c.are_same.ensures c.if-are_same.true values
    ∙ ap (λ ts. sum_of values ts % 2 ^ 32) c.as_slice-then-form-base.ensures in (
      difference-word c.args.form.now c.args.base.now _ c.subtract.ensures,
      form-apart c.args.form.now c.args.base.now _ small c.if-form-base.true c.subtract.ensures same,
    )
