use Rattle.std.proofs.Common.{◌∙◌, ap, ◌++◌}
use Rattle.task_code_registers.specs.Points.{times}
use Rattle.task_code_loops.proofs.Combining.{times-are}
use Rattle.task_code_loops.proofs.sums.scaled.Goals as goal

pub returns : goal.returns
returns c =
    times-are c.args.sum.now c.args.factor c.multiply-number.result c.in_ok-terms.terms c.add_scaled.new.new_terms c.in_ok-terms.ensures
    (c.in_ok-add_scaled.ensures ∙ ap (λ t. c.in_ok-terms.terms ++ times c.args.factor t) c.as_slice.ensures) c.multiply-number.ensures
