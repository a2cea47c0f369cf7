use Rattle.std.proofs.Common.{◌∙◌, ◌+◌, sym, subst, arith}
use Rattle.std.specs.Prelude.{IfSome}
use Rattle.task_code_statements.specs.Splits.{HasLesser}
use Rattle.task_code_statements.proofs.Splitting.{name-begins, number-begins, product-begins}
use Rattle.task_code_statements.proofs.splits.start_up_to.Goals as goal

pub returns-then-len-eq0 : goal.returns-then-len-eq0
returns-then-len-eq0 c =
    number-begins c.args.context.now c.args.whole.now c.args.last c.in_ok-product.product c.requires c.in_ok-product.ensures c.lesser-number.result
    (sym c.len.ensures ∙ c.if-len-eq0.true) c.lesser-number.ensures.word c.lesser-number.ensures.value

pub returns-then-is_below : goal.returns-then-is_below
returns-then-is_below c =
    product-begins c.args.context.now c.args.whole.now c.args.last c.in_ok-product.product c.requires c.in_ok-product.ensures (c.args.last + 1)
    c.as_slice.result.now c.as_slice.ensures.value (omega arith) (c.is_below.ensures c.if-is_below.true)

pub returns-in-Some : goal.returns-in-Some
returns-in-Some c =
    name-begins c.args.context.now c.args.whole.now c.args.last c.in_ok-product.product c.requires c.in_ok-product.ensures c.in-Some.name
    (subst (λ o. IfSome o (HasLesser c.args.context.now c.in_ok-product.product c.args.last)) c.in-Some.is c.in_ok-name_of_lesser.ensures)
