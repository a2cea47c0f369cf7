use Rattle.lowering.proofs.UpdateStoring.{sum_is}
use Rattle.lowering.proofs.update_stores.plus.Goals as goal

-- src/update_stores.rt:23:1
pub returns-clause-value : goal.returns-clause-value
returns-clause-value c = λ values.
    sum_is values c.args.sum c.args.other.now c.in_ok-opposite.opposite c.in_ok-new_sum.new_sum c.of_number.result (c.of_number.ensures.value values)
    (c.in_ok-opposite.ensures.value values) (c.in_ok-new_sum.ensures.value values)
