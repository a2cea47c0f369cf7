use Rattle.std.proofs.Common.{ap, subst, sym, ◌∙◌}
use Rattle.std.specs.Prelude.{◌&&◌, IfSome}
use Rattle.task_code_clamps.specs.Steps.{IsTested}
use Rattle.task_code_clamps.proofs.Same.{by-test, taken-first, taken-second, taken-both}
use Rattle.task_code_clamps.proofs.clamps.of_both.Goals as goal

pub returns-then-second_is_leaf : goal.returns-then-second_is_leaf
returns-then-second_is_leaf c = λ places bounds x y rx ry.
    taken-first places bounds c.args.operation x y c.args.a c.args.b rx ry
    (λ v w la lb words. c.taken_of-own.ensures.first v w la lb (λ t. words (sym c.both-are_words.ensures ∙ t)) c.in-First.is)
    (c.is_leaf-second_is_leaf.ensures.blind c.if-second_is_leaf.true)

pub returns-then-first_is_leaf : goal.returns-then-first_is_leaf
returns-then-first_is_leaf c = λ places bounds x y rx ry.
    taken-second places bounds c.args.operation x y c.args.a c.args.b rx ry (λ v w la lb. c.taken_of-own.ensures.second v w la lb c.in-Second.is)
    (c.is_leaf-first_is_leaf.ensures.blind c.if-first_is_leaf.true)

pub returns : goal.returns
returns c = λ places bounds x y rx ry.
    taken-both places bounds c.args.operation x y c.args.a c.args.b rx ry c.in_ok-first.first c.in_ok-second.second c.range_of_both-range.result
    c.both-is_word.result c.is_choice-stays.result c.in_ok-first.ensures c.in_ok-second.ensures c.range_of_both-range.ensures
    (c.both-is_word.ensures ∙ ap (λ t. t && c.is_choice-stays.result) c.both-are_words.ensures) c.is_choice-stays.ensures

pub returns-in-Some : goal.returns-in-Some
returns-in-Some c = λ places bounds x y rx ry.
    by-test places bounds c.args.operation x y c.args.a c.args.b rx ry c.in-Some.e c.range_of_both-range.result c.both-is_word.result c.is_choice-stays.result
    (subst (λ o. IfSome o (IsTested c.args.operation c.args.a c.args.b)) c.in-Some.is c.in_ok-e.ensures) c.range_of_both-range.ensures
    (c.both-is_word.ensures ∙ ap (λ t. t && c.is_choice-stays.result) c.both-are_words.ensures) c.is_choice-stays.ensures
