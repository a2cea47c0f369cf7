use Rattle.std.proofs.Common.{◌≡◌, ℕ, ◌+◌, Option, None, Some, sym, ap, subst, ◌∙◌, arith}
use Rattle.std.specs.Prelude.{max}
use Rattle.bounds_inlining.specs.Inlining.{answer, answered}
use Rattle.bounds_inlining.specs.inner.Summing.{Same, need_at, need_call, need_of, needed}
use Rattle.bounds_inlining.proofs.Capping.{need_same}
use Rattle.bounds_inlining.proofs.needs.called2.Goals as goal

pub returns-in-None : goal.returns-in-None
returns-in-None c = λ p q m n h k.
    let e : answer (needed c.args.table.now) c.args.source ≡ None = sym c.found.ensures ∙ ap need_of c.in-None.is in
    let g = c.greater.ensures p q in
    let r = c.raised.ensures p q in
    subst (λ (i : Option (ℕ → Option ℕ → ℕ)). Same (need_at c.greater.result p q) (answered (max m (1 + n)) m (Some n) i)) (sym e) (omega (arith, g, r, h, k))

pub returns-in-Some : goal.returns-in-Some
returns-in-Some c = λ p q m n h k.
    let e : answer (needed c.args.table.now) c.args.source ≡ Some (need_call c.in-Some.need) = sym c.found.ensures ∙ ap need_of c.in-Some.is in
    subst (λ (i : Option (ℕ → Option ℕ → ℕ)). Same (need_at c.applied.result p q) (answered (max m (1 + n)) m (Some n) i)) (sym e)
    (c.applied.ensures p q ∙ need_same c.in-Some.need (need_at c.args.x p q) (need_at c.args.y p q) m n h k)
