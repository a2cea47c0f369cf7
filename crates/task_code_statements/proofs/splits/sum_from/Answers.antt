use Rattle.task_code_statements.proofs.Splitting.{name-adds, number-adds, product-adds}
use Rattle.task_code_statements.proofs.splits.sum_from.Goals as goal

pub returns-in_ok-push-in-Product-2 : goal.returns-in_ok-push-in-Product-2
returns-in_ok-push-in-Product-2 c =
    product-adds c.args.whole.now c.args.start c.in_ok-terms.terms c.push.new.self c.push-in-Product.new.self c.in-Product.is c.in_ok-terms.ensures
    c.in_ok-push-in-Product.ensures.ok c.in_ok-push-in-Product-2.ensures.ok

pub returns-in_ok-push-in-Number : goal.returns-in_ok-push-in-Number
returns-in_ok-push-in-Number c =
    number-adds c.args.whole.now c.args.start c.in-Number.number c.in_ok-terms.terms c.push-in-Number.new.self c.in-Number.is c.in_ok-terms.ensures
    c.in_ok-push-in-Number.ensures.ok

pub returns-in_ok-push-in-Name-2 : goal.returns-in_ok-push-in-Name-2
returns-in_ok-push-in-Name-2 c =
    name-adds c.args.whole.now c.args.start c.in-Name.counter c.in_ok-terms.terms c.push-in-Name.new.self c.push-in-Name-2.new.self c.in-Name.is
    c.in_ok-terms.ensures c.in_ok-push-in-Name.ensures.ok c.in_ok-push-in-Name-2.ensures.ok
