-- Scopes that are made before a loop's first iteration.
use Rattle.std.proofs.Common.{◌≡◌, ℕ, ◌+◌, ◌<◌, ◌≤◌, List, [], ◌∷◌, ◌++◌, length, refl, ap, ◌∙◌, sym, subst, arith, inl}
use Rattle.std.proofs.Common.{append_assoc}
use Rattle.loop_ir.specs.declared.expressions.Counter.{Counter}
use Rattle.loop_ir.specs.Counters.{with}
use Rattle.multi_hart_laws.proofs.Paths.{line-then}
use Rattle.task_code_scalar.proofs.Spelling.{emits_then}
use Rattle.task_code_registers.specs.declared.scopes.AffineForm.{AffineForm}
use Rattle.task_code_registers.specs.declared.scopes.Held.{Held}
use Rattle.task_code_registers.specs.Emitting.{MakesValue, base_words, sum_words}
use Rattle.task_code_registers.specs.Scopes.{IsKept, IsLeft, left_count}
use Rattle.task_code_registers.specs.Holding.{IsAt, Enters, Takes, ScopesNest}
use Rattle.task_code_registers.proofs.Advancing.{kept-more}
use Rattle.task_code_registers.proofs.Counting.{still-left}
use Rattle.task_code_registers.proofs.Knowing.{knows-still, kept-apart}
use Rattle.task_code_registers.proofs.Making.{short-then}
use Rattle.task_code_registers.proofs.Striding.{others-fewer}

-- ---- one form

enters-one : (counter : Counter) (scope : List Held) (form start : AffineForm) (r : ℕ) (c0 c1 : List ℕ) → IsLeft scope r → IsAt counter 0 form start
    → MakesValue c0 c1 scope start r
    → Enters c0 c1 (sum_words form.per_hart form.sum.terms) counter scope (record { register = r; form = form } ∷ scope)
enters-one counter scope form start r c0 c1 is at x = record {
  insns = x.insns;
  emits = x.emits;
  short =
      let k = x.short in
      let n : length start.sum.terms ≤ length form.sum.terms =
      subst (λ ts. length ts ≤ length form.sum.terms) (sym at.terms) (others-fewer counter form.sum.terms) in
      let p : base_words start.per_hart ≡ base_words form.per_hart = ap base_words at.per_hart in
      omega (arith, k, n, p);
  extends = record { added = record { register = r; form = form } ∷ []; is = refl };
  holders = λ holders. (inl is.0, (is.1, holders));
  does = λ w m hart values f l holders knows.
      let a = x.does w m hart (with counter 0 values) f l holders is.1 knows in
      let same : (q : ℕ) → IsKept scope q → a.after q ≡ f q = (λ q h. let s = kept-apart scope q holders h in a.others q (is.1 q h) s.0 s.1) in
      record {
        after = a.after;
        line = a.line;
        keeps = same;
        mark = (a.value ∙ at.value hart 0 values, knows-still hart scope (with counter 0 values) f a.after same knows);
      };
}

pub takes-one : (counter : Counter) (scope made : List Held) (form start : AffineForm) (reserved r : ℕ) (c0 c1 : List ℕ)
    → IsLeft scope r × (reserved < left_count scope) → IsAt counter 0 form start
    → MakesValue c0 c1 scope start r → made ≡ record { register = r; form = form } ∷ scope → Takes c0 c1 counter scope form reserved r made
takes-one counter scope made form start reserved r c0 c1 is at x e = record {
  enters = subst (Enters c0 c1 (sum_words form.per_hart form.sum.terms) counter scope) (sym e) (enters-one counter scope form start r c0 c1 is.0 at x);
  is = e;
  may = is.0.0;
  left = subst (λ s. reserved ≤ left_count s) (sym e) (still-left scope (record { register = r; form = form }) reserved is.1);
}

-- ---- one scope after another

pub scopes-nest : ScopesNest
scopes-nest c0 c1 c2 n k counter scope next inner x y =
    let a = x.extends in
    let b = y.extends in
    record {
      insns = x.insns ++ y.insns;
      emits = emits_then x.emits y.emits;
      short = short-then x.insns y.insns n k (n + k) x.short y.short (omega arith);
      extends = record { added = b.added ++ a.added; is = b.is ∙ ap (λ s. b.added ++ s) a.is ∙ sym (append_assoc b.added a.added scope) };
      holders = λ h. y.holders (x.holders h);
      does = λ w m hart values f l holders knows.
          let g = x.does w m hart values f l holders knows in
          let h = y.does w m hart values g.after l (x.holders holders) g.mark in
          record {
            after = h.after;
            line = line-then w x.insns y.insns f g.after h.after m m m g.line h.line;
            keeps = λ q o. h.keeps q (subst (λ s. IsKept s q) (sym a.is) (kept-more a.added scope q o)) ∙ g.keeps q o;
            mark = h.mark;
          };
    }
