use Rattle.task_code_statements.proofs.Splitting.{product-is}
use Rattle.task_code_statements.proofs.splits.product_of.Goals as goal

pub returns : goal.returns
returns c =
    product-is c.args.context.now c.as_slice.result.now c.args.whole.now c.in_ok-terms.terms c.push.new.self c.in_ok-product.product c.as_slice.ensures.value
    c.in_ok-terms.ensures c.in_ok-push.ensures.ok c.in_ok-product.ensures
