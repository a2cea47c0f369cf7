use Rattle.std.proofs.Common.{◌∙◌, ap, arith}
use Rattle.halide_pipeline.specs.Words as word
use Rattle.task_code_clamps.proofs.Lying.{maximum-first, maximum-second, minimum-first, minimum-second, none-added, none-subtracted}
use Rattle.task_code_clamps.proofs.clamps.taken_of.Goals as goal

pub returns-then-a-b-clause-first : goal.returns-then-a-b-clause-first
returns-then-a-b-clause-first c = λ v w x y words is.
    ap (λ o. word.applied o v w) c.in-Minimum.is
    ∙ minimum-first v w (let t = c.if-a-b.true in let h = x.high in let l = y.low in omega (arith, t, h, l))

pub returns-then-b-a-clause-second : goal.returns-then-b-a-clause-second
returns-then-b-a-clause-second c = λ v w x y is.
    ap (λ o. word.applied o v w) c.in-Minimum.is
    ∙ minimum-second v w (let t = c.if-b-a.true in let l = x.low in let h = y.high in omega (arith, t, h, l))

pub returns-then-b-a-2-clause-first : goal.returns-then-b-a-2-clause-first
returns-then-b-a-2-clause-first c = λ v w x y words is.
    ap (λ o. word.applied o v w) c.in-Maximum.is
    ∙ maximum-first v w (let t = c.if-b-a-2.true in let l = x.low in let h = y.high in omega (arith, t, h, l))

pub returns-then-a-b-2-clause-second : goal.returns-then-a-b-2-clause-second
returns-then-a-b-2-clause-second c = λ v w x y is.
    ap (λ o. word.applied o v w) c.in-Maximum.is
    ∙ maximum-second v w (let t = c.if-a-b-2.true in let h = x.high in let l = y.low in omega (arith, t, h, l))

pub returns-then-is_zero-clause-first : goal.returns-then-is_zero-clause-first
returns-then-is_zero-clause-first c = λ v w x y words is.
    let both = words c.if-are_words.true in
    ap (λ o. word.applied o v w) c.in-Add.is ∙ none-added v w both.0 (c.is_zero.ensures c.if-is_zero.true w both.1 y)

pub returns-then-is_zero-2-clause-first : goal.returns-then-is_zero-2-clause-first
returns-then-is_zero-2-clause-first c = λ v w x y words is.
    let both = words c.if-are_words-2.true in
    ap (λ o. word.applied o v w) c.in-Subtract.is ∙ none-subtracted v w both.0 (c.is_zero-then-are_words-2.ensures c.if-is_zero-2.true w both.1 y)
