use Rattle.std.proofs.Common.{◌≡◌, ℕ, ◌+◌, Option, None, Some, sym, ap, subst, ◌∙◌, arith}
use Rattle.bounds_inlining.specs.Inlining.{answer, answered}
use Rattle.bounds_inlining.specs.inner.Summing.{Same, sum_at, count_call, call_of, counted}
use Rattle.bounds_inlining.proofs.counts.called1.Goals as goal

pub returns-in-None : goal.returns-in-None
returns-in-None c = λ p q m h.
    let e : answer (counted c.args.table.now) c.args.source ≡ None = sym c.found.ensures ∙ ap call_of c.in-None.is in
    let n = c.number.ensures p q in
    let t = c.plus.ensures p q in
    subst (λ (i : Option (ℕ → Option ℕ → ℕ)). Same (sum_at c.plus.result p q) (answered (1 + m) m None i)) (sym e) (omega (arith, n, t, h))

pub returns-in-Some : goal.returns-in-Some
returns-in-Some c = λ p q m h.
    let e : answer (counted c.args.table.now) c.args.source ≡ Some (count_call c.in-Some.call) = sym c.found.ensures ∙ ap call_of c.in-Some.is in
    subst (λ (i : Option (ℕ → Option ℕ → ℕ)). Same (sum_at c.applied.result p q) (answered (1 + m) m None i)) (sym e) (c.applied.ensures p q m 0 h
    (c.number-in-Some.ensures p q))
