use Rattle.loop_ir.specs.Counters.{values_of}
use Rattle.loop_ir.proofs.Sums.{first_more}
use Rattle.loop_ir.proofs.running.+sum_of.Goals as goal

pub returns-in-len1-up : goal.returns-in-len1-up
returns-in-len1-up t c =
    first_more (values_of c.args.bindings.now) c.args.terms.now _ c.bound_value.result c.multiply-product.result c.sum_of.result c.add.result
    c.in-len1-up.len_at_least c.bound_value.ensures c.multiply-product.ensures c.sum_of.ensures c.add.ensures
