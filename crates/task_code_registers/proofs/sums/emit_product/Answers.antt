use Rattle.task_code_registers.proofs.Making.{product-one, product-more}
use Rattle.task_code_registers.proofs.sums.emit_product.Goals as goal

pub returns-then-stride-eq1 : goal.returns-then-stride-eq1
returns-then-stride-eq1 c = product-one c.args.r c.args.s c.args.stride c.args.number _ _ c.if-stride-eq1.true c.in_ok-emit_plus.ensures.any

pub returns : goal.returns
returns c =
    product-more c.args.r c.args.s c.args.stride c.args.number _ _ _ c.requires.0.0.0 c.in_ok-emit_times.ensures c.in_ok-emit_plus-2.ensures.any
