use Rattle.std.proofs.Common.{◌≡◌, ℕ, ◌+◌, Option, None, Some, sym, ap, subst, ◌∙◌}
use Rattle.bounds_inlining.specs.Inlining.{answer, answered}
use Rattle.bounds_inlining.specs.inner.Summing.{Same, sum_at, count_call, call_of, counted}
use Rattle.bounds_inlining.proofs.Capping.{both_same}
use Rattle.bounds_inlining.proofs.counts.called2.Goals as goal

pub returns-in-None : goal.returns-in-None
returns-in-None c = λ p q m n h k.
    let e : answer (counted c.args.table.now) c.args.source ≡ None = sym c.found.ensures ∙ ap call_of c.in-None.is in
    subst (λ (i : Option (ℕ → Option ℕ → ℕ)). Same (sum_at c.plus-in-None.result p q) (answered (1 + m + n) m (Some n) i)) (sym e)
    (both_same (sum_at c.number.result p q) 1 (sum_at c.args.x p q) (sum_at c.args.y p q) m n (sum_at c.plus.result p q) (sum_at c.plus-in-None.result p q)
    (c.number.ensures p q) (c.plus.ensures p q) (c.plus-in-None.ensures p q) h k)

pub returns-in-Some : goal.returns-in-Some
returns-in-Some c = λ p q m n h k.
    let e : answer (counted c.args.table.now) c.args.source ≡ Some (count_call c.in-Some.call) = sym c.found.ensures ∙ ap call_of c.in-Some.is in
    subst (λ (i : Option (ℕ → Option ℕ → ℕ)). Same (sum_at c.applied.result p q) (answered (1 + m + n) m (Some n) i)) (sym e) (c.applied.ensures p q m n h k)
