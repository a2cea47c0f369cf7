-- Forms that are held before a loop, one after the other.
use Rattle.std.proofs.Common.{◌≡◌, ℕ, ◌+◌, ◌-◌, ◌≤◌, List, [], ◌∷◌, length, get_or, take, drop, true, refl, ap, ◌∙◌, sym, subst, arith}
use Rattle.loop_ir.specs.declared.expressions.Counter.{Counter}
use Rattle.multi_hart_laws.proofs.Paths.{stay}
use Rattle.task_code_scalar.proofs.Spelling.{emits-none}
use Rattle.task_code_registers.specs.declared.scopes.AffineForm.{AffineForm}
use Rattle.task_code_registers.specs.declared.scopes.Held.{Held}
use Rattle.task_code_registers.specs.Emitting.{sum_words}
use Rattle.task_code_registers.specs.Holding.{Enters, Takes, can_advance}
use Rattle.task_code_registers.proofs.Entering.{scopes-nest}
use Rattle.task_code_registers.proofs.Knowing.{others-are}
use Rattle.task_code_loops.specs.Beginning.{Gains, forms_words}
use Rattle.task_code_loops.proofs.Knowledge.{can-added}

-- ---- scopes that are entered

pub enters-none : (counter : Counter) (scope : List Held) (most : ℕ) (c : List ℕ) → Enters c c most counter scope scope
enters-none counter scope most c = record {
  insns = [];
  emits = emits-none c;
  short = let z : 0 ≤ most = omega arith in z;
  extends = record { added = []; is = refl };
  holders = λ h. h;
  does = λ w m hart values f l holders knows. record { after = f; line = λ at s. stay w at f m; keeps = λ q k. refl; mark = knows };
}

pub enters-more : (counter : Counter) (scope inner : List Held) (n k : ℕ) (c0 c1 : List ℕ) → n ≤ k → Enters c0 c1 n counter scope inner
    → Enters c0 c1 k counter scope inner
enters-more counter scope inner n k c0 c1 more x = record {
  insns = x.insns;
  emits = x.emits;
  short = let s = x.short in omega (arith, s, more);
  extends = x.extends;
  holders = x.holders;
  does = x.does;
}

pub enters-then : (counter : Counter) (scope next inner : List Held) (n k most : ℕ) (c0 c1 c2 : List ℕ) → n + k ≤ most
    → Enters c0 c1 n counter scope next → Enters c1 c2 k counter next inner → Enters c0 c2 most counter scope inner
enters-then counter scope next inner n k most c0 c1 c2 fits x y =
    enters-more counter scope inner (n + k) most c0 c2 fits (scopes-nest c0 c1 c2 n k counter scope next inner x y)

-- ---- and that go along

pub can-taken : (counter : Counter) (scope inner : List Held) (form : AffineForm) (r reserved : ℕ) (c0 c1 : List ℕ)
    → Takes c0 c1 counter scope form reserved r inner → can_advance counter scope ≡ true → can_advance counter inner ≡ true
can-taken counter scope inner form r reserved c0 c1 x can =
    subst (λ s. can_advance counter s ≡ true) (sym x.is) (can-added counter (record { register = r; form = form }) scope x.may can)

pub gains-none : (counter : Counter) (scope : List Held) (most reserved : ℕ) (c0 c1 : List ℕ) → c1 ≡ c0 → Gains c0 c1 most counter reserved scope scope
gains-none counter scope most reserved c0 c1 e = record {
  enters = subst (λ c. Enters c0 c most counter scope scope) (sym e) (enters-none counter scope most c0);
  can = λ can. can;
  left = λ left. left;
}

gains-one : (counter : Counter) (scope scope' inner : List Held) (form : AffineForm) (r reserved : ℕ) (c0 c1 : List ℕ) → scope' ≡ scope
    → Takes c0 c1 counter scope' form reserved r inner → Gains c0 c1 (sum_words form.per_hart form.sum.terms) counter reserved scope inner
gains-one counter scope scope' inner form r reserved c0 c1 e x =
    subst (λ s. Gains c0 c1 (sum_words form.per_hart form.sum.terms) counter reserved s inner) e (record {
      enters = x.enters;
      can = can-taken counter scope' inner form r reserved c0 c1 x;
      left = λ left. x.left;
    })

-- so it is where the form is put in front of the scope itself
pub gains-front : (counter : Counter) (scope scope' inner : List Held) (form : AffineForm) (r reserved : ℕ) (c0 c1 : List ℕ) → scope' ≡ scope
    → Takes c0 c1 counter scope' form reserved r (record { register = r; form = form } ∷ scope') → inner ≡ record { register = r; form = form } ∷ scope
    → Gains c0 c1 (sum_words form.per_hart form.sum.terms) counter reserved scope inner
gains-front counter scope scope' inner form r reserved c0 c1 e x is =
    let own : Held = record { register = r; form = form } in
    subst (λ s. Gains c0 c1 (sum_words form.per_hart form.sum.terms) counter reserved scope s) (sym is)
    (gains-one counter scope scope' (own ∷ scope) form r reserved c0 c1 e (subst (λ s. Takes c0 c1 counter scope' form reserved r (own ∷ s)) e x))

pub gains-then : (counter : Counter) (scope next inner : List Held) (n k most reserved : ℕ) (c0 c1 c2 : List ℕ) → n + k ≤ most
    → Gains c0 c1 n counter reserved scope next → Gains c1 c2 k counter reserved next inner → Gains c0 c2 most counter reserved scope inner
gains-then counter scope next inner n k most reserved c0 c1 c2 fits x y = record {
  enters = enters-then counter scope next inner n k most c0 c1 c2 fits x.enters y.enters;
  can = λ can. y.can (x.can can);
  left = λ left. y.left (x.left left);
}

-- ---- as the emitters call them

pub gains-first : (counter : Counter) (scope next inner : List Held) (wanted : List AffineForm) (first other : AffineForm) (reserved : ℕ) (c0 c1 c2 : List ℕ)
    → 1 ≤ length wanted → first ≡ get_or wanted 0 other
    → Gains c0 c1 (sum_words first.per_hart first.sum.terms) counter reserved scope next
    → Gains c1 c2 (forms_words (take (length wanted - 1) (drop 1 wanted))) counter reserved next inner
    → Gains c0 c2 (forms_words wanted) counter reserved scope inner
gains-first counter scope next inner wanted first other reserved c0 c1 c2 some is x y =
    let rest = take (length wanted - 1) (drop 1 wanted) in
    let e : first ∷ rest ≡ wanted = ap (λ h. h ∷ rest) is ∙ sym (others-are wanted other some) in
    let n = sum_words first.per_hart first.sum.terms in
    subst (λ fs. Gains c0 c2 (forms_words fs) counter reserved scope inner) e
    (gains-then counter scope next inner n (forms_words rest) (n + forms_words rest) reserved c0 c1 c2 (omega arith) x y)
