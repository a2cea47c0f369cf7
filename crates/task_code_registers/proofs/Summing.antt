-- Forms made in registers.
use Rattle.std.proofs.Common.{◌≡◌, ℕ, suc, ◌+◌, ◌-◌, ◌*◌, ◌%◌, ◌^◌, ◌<◌, ◌≤◌, List, [], ◌∷◌, ◌++◌, length, get_or, take, drop, true}
use Rattle.std.proofs.Common.{refl, ap, ◌∙◌, sym, subst, arith, inl, inr}
use Rattle.std.proofs.Math.Nat.{mod-add-mod, add-mod-mod}
use Rattle.std.proofs.lemmas.Nat.{mul-mod_first}
use Rattle.halide_pipeline.specs.Words as word
use Rattle.loop_ir.specs.declared.expressions.Linear.{Linear}
use Rattle.loop_ir.specs.declared.expressions.Term.{Term}
use Rattle.loop_ir.specs.Counters.{Values}
use Rattle.loop_ir.specs.Expressions.{linear_value, sum_of}
use Rattle.multi_hart_laws.proofs.Paths.{stay}
use Rattle.task_code_scalar.proofs.Spelling.{emits_then, emits-none}
use Rattle.task_code_registers.specs.declared.scopes.AffineForm.{AffineForm}
use Rattle.task_code_registers.specs.declared.scopes.Held.{Held}
use Rattle.task_code_registers.specs.Emitting.{Fits, Makes, MakesOf, MakesForm, MakesAddress, IsNear, IsRest, IsWorth, HoldsVariable}
use Rattle.task_code_registers.specs.Emitting.{base_words, sum_words, sum_value}
use Rattle.task_code_registers.specs.Registers.{hart_number, may_hold}
use Rattle.task_code_registers.specs.Scopes.{Knows, form_value}
use Rattle.task_code_registers.proofs.Knowing.{may-hold, knows-zero, knows-hart, knows-still, kept-apart, others-are, form-small}
use Rattle.task_code_registers.proofs.Making.{puts-then, puts-is, short-then, base-least}

-- ---- distances

apart-by : (n m s t d : ℕ) → m < 2 ^ 32 → s % 2 ^ 32 ≡ t % 2 ^ 32 → d ≡ (n + (2 ^ 32 - m)) % 2 ^ 32
    → (n + s) % 2 ^ 32 ≡ ((m + t) % 2 ^ 32 + d) % 2 ^ 32
apart-by n m s t d small es e = omega (arith, small, es, e)

linear-apart : (values : Values) (new_sum base : Linear) (d : ℕ) → base.number < 2 ^ 32 → d ≡ word.subtract new_sum.number base.number
    → sum_of values new_sum.terms % 2 ^ 32 ≡ sum_of values base.terms % 2 ^ 32 → linear_value values new_sum ≡ (linear_value values base + d) % 2 ^ 32
unfolding linear_value word.subtract
linear-apart values new_sum base d small e same =
    apart-by new_sum.number base.number (sum_of values new_sum.terms) (sum_of values base.terms) d small same e

moved : (a b h d : ℕ) → a ≡ (b + d) % 2 ^ 32 → (a + h) % 2 ^ 32 ≡ ((b + h) % 2 ^ 32 + d) % 2 ^ 32
moved a b h d e = omega (arith, e)

-- two forms with the same part of the hart's number and the same sum of terms
pub form-apart : (affine_form base : AffineForm) (d : ℕ) → base.sum.number < 2 ^ 32
    → affine_form.per_hart ≡ base.per_hart
    → d ≡ word.subtract affine_form.sum.number base.sum.number
    → ((values : Values) → sum_of values affine_form.sum.terms % 2 ^ 32 ≡ sum_of values base.sum.terms % 2 ^ 32)
    → (hart : ℕ) (values : Values) → form_value hart values affine_form ≡ (form_value hart values base + d) % 2 ^ 32
unfolding form_value
form-apart affine_form base d small part e same hart values =
    ap (λ k. (linear_value values affine_form.sum + hart * k) % 2 ^ 32) part
    ∙ moved (linear_value values affine_form.sum) (linear_value values base.sum) (hart * base.per_hart) d
    (linear-apart values affine_form.sum base.sum d small e (same values))

pub difference-word : (affine_form base : AffineForm) (d : ℕ)
    → d ≡ word.subtract affine_form.sum.number base.sum.number → d < 2 ^ 32
unfolding word.subtract
difference-word affine_form base d e = omega (arith, e)

-- ---- what is near

pub near-first : (scope : List Held) (item other : Held) (affine_form : AffineForm) (d : ℕ) → 1 ≤ length scope → item ≡ get_or scope 0 other → may_hold item.register ≡ true
    → (d < 2 ^ 32) × ((hart : ℕ) (values : Values) → form_value hart values affine_form ≡ (form_value hart values item.form + d) % 2 ^ 32)
    → IsNear scope affine_form item.register d
near-first [] item other affine_form d some ei may e = absurd (omega (arith, some))
near-first (first ∷ others) item other affine_form d some ei may e = record {
  may = may;
  kept = inl (ap (λ (h : Held). h.register) ei);
  word = e.0;
  value = λ hart values f knows. e.1 hart values
      ∙ ap (λ n. (n + d) % 2 ^ 32) (ap (λ (h : Held). form_value hart values h.form) ei ∙ sym knows.0 ∙ ap (λ (h : Held). f h.register) (sym ei));
  small = λ hart values f knows.
      subst (λ n. n < 2 ^ 32) (ap (λ (h : Held). form_value hart values h.form) (sym (sym ei)) ∙ sym knows.0 ∙ ap (λ (h : Held). f h.register) (sym ei))
      (form-small hart values item.form);
}

-- ---- code

pub makes-form : (scope : List Held) (n most r : ℕ) (c0 c1 : List ℕ) (says : (ℕ → ℕ) → ℕ) (of : ℕ → Values → ℕ) → n ≤ most → Makes c0 c1 n r says
    → ((hart : ℕ) (values : Values) (f : ℕ → ℕ) → Knows hart scope values f → says f ≡ of hart values) → MakesForm c0 c1 most scope r of
makes-form scope n most r c0 c1 says of fits x e = record {
  insns = x.insns;
  emits = x.emits;
  short = let k = x.short in omega (arith, k, fits);
  does = λ w m hart values f l holders free knows. puts-is w m l (e hart values f knows) (x.does w m f l (knows-zero hart scope values f knows));
}

-- of a register that holds a word
pub makes-form-of : (scope : List Held) (n most r s : ℕ) (c0 c1 : List ℕ) (says : ℕ → ℕ) (of : ℕ → Values → ℕ) → n ≤ most → MakesOf c0 c1 n r s says
    → ((hart : ℕ) (values : Values) (f : ℕ → ℕ) → Knows hart scope values f → (f s < 2 ^ 32) × (says (f s) ≡ of hart values)) → MakesForm c0 c1 most scope r of
makes-form-of scope n most r s c0 c1 says of fits x e = record {
  insns = x.insns;
  emits = x.emits;
  short = let k = x.short in omega (arith, k, fits);
  does = λ w m hart values f l holders free knows.
      let h = e hart values f knows in puts-is w m l h.1 (x.does w m f l (knows-zero hart scope values f knows) h.0);
}

pub form-is : (scope : List Held) (n most r : ℕ) (c0 c1 : List ℕ) (of other : ℕ → Values → ℕ) → n ≤ most → MakesForm c0 c1 n scope r of
    → ((hart : ℕ) (values : Values) → of hart values ≡ other hart values)
    → MakesForm c0 c1 most scope r other
form-is scope n most r c0 c1 of other fits x e = record {
  insns = x.insns;
  emits = x.emits;
  short = let k = x.short in omega (arith, k, fits);
  does = λ w m hart values f l holders free knows. puts-is w m l (e hart values) (x.does w m hart values f l holders free knows);
}

pub near-form : (scope : List Held) (affine_form : AffineForm) (s n r : ℕ) (c0 c1 : List ℕ) → IsNear scope affine_form s n → IsWorth affine_form n
    → MakesOf c0 c1 3 r s (λ v. (v + n) % 2 ^ 32) → (Fits n → MakesOf c0 c1 1 r s (λ v. (v + n) % 2 ^ 32))
    → MakesForm c0 c1 (sum_words affine_form.per_hart affine_form.sum.terms) scope r
    (λ hart values. form_value hart values affine_form)
near-form scope affine_form s n r c0 c1 near worth x one = by-worth worth
  where
    in-most : (k : ℕ) → k ≤ sum_words affine_form.per_hart affine_form.sum.terms
        → MakesOf c0 c1 k r s (λ v. (v + n) % 2 ^ 32)
        → MakesForm c0 c1 (sum_words affine_form.per_hart affine_form.sum.terms) scope r
        (λ hart values. form_value hart values affine_form)
    in-most k few y =
        makes-form-of scope k (sum_words affine_form.per_hart affine_form.sum.terms) r s c0 c1 (λ v. (v + n) % 2 ^ 32) (λ hart values. form_value hart values affine_form) few y
        (λ hart values f knows. (near.small hart values f knows, sym (near.value hart values f knows)))

    by-worth : IsWorth affine_form n → MakesForm c0 c1 (sum_words affine_form.per_hart affine_form.sum.terms) scope r (λ hart values. form_value hart values affine_form)
    by-worth (inl fit) = in-most 1 (let b = base-least affine_form.per_hart in omega (arith, b)) (one fit)
    by-worth (inr long) = in-most 3 (omega (arith, long)) x

-- ---- sums, term by term

pub sum-none : (scope : List Held) (form : AffineForm) (terms : List Term) (r : ℕ) (c0 c1 : List ℕ) → length terms < 1
    → Makes c0 c1 (base_words form.per_hart) r (λ f. (form.sum.number + f hart_number * form.per_hart) % 2 ^ 32)
    → MakesForm c0 c1 (sum_words form.per_hart terms) scope r (sum_value form terms)
sum-none scope form [] r c0 c1 none x =
    makes-form scope (base_words form.per_hart) (sum_words form.per_hart []) r c0 c1 (λ f. (form.sum.number + f hart_number * form.per_hart) % 2 ^ 32)
    (sum_value form []) (omega arith) x (λ hart values f knows.
    let g : (form.sum.number + hart * form.per_hart) % 2 ^ 32 ≡ (form.sum.number + hart * form.per_hart + 0) % 2 ^ 32 = omega arith in
    ap (λ h. (form.sum.number + h * form.per_hart) % 2 ^ 32) (knows-hart hart scope values f knows) ∙ g)
sum-none scope form (first ∷ others) r c0 c1 none x = absurd (omega (arith, none))

module _ (scope : List Held) (form : AffineForm) (terms : List Term) (other : Term) (r : ℕ) (some : 1 ≤ length terms) where
  abbrev first : Term
  first = get_or terms 0 other

  abbrev rest : List Term
  rest = take (length terms - 1) (drop 1 terms)

  parts : (values : Values) → sum_of values terms ≡ values first.counter * first.stride + sum_of values rest
  parts values = ap (sum_of values) (others-are terms other some)

  one-less : length terms ≡ suc (length rest)
  one-less = ap length (others-are terms other some)

  abbrev base : ℕ → ℕ
  base hart = form.sum.number + hart * form.per_hart

  -- a term that is 0
  pub sum-skip : (c0 c1 : List ℕ) → first.stride ≡ 0 → MakesForm c0 c1 (sum_words form.per_hart rest) scope r (sum_value form rest)
      → MakesForm c0 c1 (sum_words form.per_hart terms) scope r (sum_value form terms)
  sum-skip c0 c1 z x =
      form-is scope (sum_words form.per_hart rest) (sum_words form.per_hart terms) r c0 c1 (sum_value form rest) (sum_value form terms) (let n = one-less in
      omega (arith, n)) x (λ hart values.
      let g : sum_of values rest ≡ values first.counter * 0 + sum_of values rest = omega arith in
      ap (λ k. (base hart + k) % 2 ^ 32) (g ∙ ap (λ s. values first.counter * s + sum_of values rest) (sym z) ∙ sym (parts values)))

  product : (a v s : ℕ) → a ≡ v % 2 ^ 32 → (a * s) % 2 ^ 32 ≡ (v * s) % 2 ^ 32
  product a v s e = ap (λ k. (k * s) % 2 ^ 32) e ∙ mul-mod_first v s (2 ^ 32)

  with-product : (n a v s : ℕ) → a ≡ v % 2 ^ 32 → (n + a * s) % 2 ^ 32 ≡ (n + v * s) % 2 ^ 32
  with-product n a v s e = sym (add-mod-mod n (a * s) (2 ^ 32)) ∙ ap (λ k. (n + k) % 2 ^ 32) (product a v s e) ∙ add-mod-mod n (v * s) (2 ^ 32)

  -- a sum of one term
  pub sum-first : (s : ℕ) (c0 c1 : List ℕ) → form.per_hart ≡ 0 → ((values : Values) → sum_of values rest ≡ 0) → HoldsVariable scope first.counter s
      → MakesOf c0 c1 6 r s (λ v. (form.sum.number + v * first.stride) % 2 ^ 32)
      → MakesForm c0 c1 (sum_words form.per_hart terms) scope r (sum_value form terms)
  sum-first s c0 c1 z none holds x =
      makes-form-of scope 6 (sum_words form.per_hart terms) r s c0 c1 (λ v. (form.sum.number + v * first.stride) % 2 ^ 32) (sum_value form terms)
      (let n = one-less in let b = base-least form.per_hart in omega (arith, n, b)) x (λ hart values f knows.
      let v = values first.counter in
      let n = form.sum.number in
      let e = holds.value hart values f knows in
      let g : (n + v * first.stride) % 2 ^ 32 ≡ (n + hart * 0 + (v * first.stride + 0)) % 2 ^ 32 = omega arith in (
        let small : v % 2 ^ 32 < 2 ^ 32 = omega arith in subst (λ k. k < 2 ^ 32) (sym e) small,
        with-product n (f s) v first.stride e ∙ g
            ∙ ap (λ k. (n + hart * k + (v * first.stride + 0)) % 2 ^ 32) (sym z)
            ∙ ap (λ k. (base hart + (v * first.stride + k)) % 2 ^ 32) (sym (none values)) ∙ ap (λ k. (base hart + k) % 2 ^ 32) (sym (parts values)),
      ))

  -- one more term
  pub sum-more : (s : ℕ) (c0 c1 c2 : List ℕ) → HoldsVariable scope first.counter s
      → MakesForm c0 c1 (sum_words form.per_hart rest) scope r (sum_value form rest)
      → Makes c1 c2 4 r (λ f. (f r + f s * first.stride) % 2 ^ 32) → MakesForm c0 c2 (sum_words form.per_hart terms) scope r (sum_value form terms)
  sum-more s c0 c1 c2 holds x y = record {
    insns = x.insns ++ y.insns;
    emits = emits_then x.emits y.emits;
    short = let n = one-less in short-then x.insns y.insns (sum_words form.per_hart rest) 4 (sum_words form.per_hart terms) x.short y.short (omega (arith, n));
    does = λ w m hart values f l holders free knows.
        let a = x.does w m hart values f l holders free knows in
        let k = knows-still hart scope values f a.after (λ q h. let t = kept-apart scope q holders h in a.others q (free q h) t.0 t.1) knows in
        let b = y.does w m a.after l (knows-zero hart scope values a.after k) in
        let v = values first.counter in
        let sum = base hart + sum_of values rest in
        let g : sum + v * first.stride ≡ base hart + (v * first.stride + sum_of values rest) = omega arith in
        let val : (a.after r + a.after s * first.stride) % 2 ^ 32 ≡ sum_value form terms hart values =
        ap (λ n. (n + a.after s * first.stride) % 2 ^ 32) a.value
        ∙ with-product (sum % 2 ^ 32) (a.after s) v first.stride (holds.value hart values a.after k)
        ∙ mod-add-mod sum (2 ^ 32) (v * first.stride)
        ∙ ap (λ n. n % 2 ^ 32) g ∙ ap (λ n. (base hart + n) % 2 ^ 32) (sym (parts values)) in
        puts-then w m l a (inr (inr refl)) (puts-is w m l val b);
  }

-- the sum of all terms
pub sum-is : (form : AffineForm) (terms : List Term) (hart : ℕ) (values : Values) → terms ≡ form.sum.terms
    → sum_value form terms hart values ≡ form_value hart values form
unfolding form_value linear_value
sum-is form terms hart values e =
    let h = hart * form.per_hart in
    let s = sum_of values form.sum.terms in
    let n = form.sum.number in
    let g : (n + h + s) % 2 ^ 32 ≡ ((n + s) % 2 ^ 32 + h) % 2 ^ 32 = omega arith in
    ap (λ ts. (n + h + sum_of values ts) % 2 ^ 32) e ∙ g

pub whole-form : (scope : List Held) (form : AffineForm) (terms : List Term) (r : ℕ) (c0 c1 : List ℕ) → terms ≡ form.sum.terms
    → MakesForm c0 c1 (sum_words form.per_hart terms) scope r (sum_value form terms)
    → MakesForm c0 c1 (sum_words form.per_hart form.sum.terms) scope r (λ hart values. form_value hart values form)
whole-form scope form terms r c0 c1 e x =
    form-is scope (sum_words form.per_hart terms) (sum_words form.per_hart form.sum.terms) r c0 c1 (sum_value form terms)
    (λ hart values. form_value hart values form)
    (let n : length terms ≡ length form.sum.terms = ap length e in omega (arith, n)) x (λ hart values. sum-is form terms hart values e)

-- ---- addresses

-- where a form is near enough
pub address-near : (scope : List Held) (affine_form : AffineForm) (s n most r : ℕ) (c : List ℕ)
    → IsNear scope affine_form s n → Fits n
    → MakesAddress c c most scope r s n (λ hart values. form_value hart values affine_form)
address-near scope affine_form s n most r c near fit = record {
  insns = [];
  emits = emits-none c;
  short = let z : 0 ≤ most = omega arith in z;
  low = let m = may-hold s near.may in let h = m.high in omega (arith, h);
  which = inr near.kept;
  fits = fit;
  small = near.word;
  does = λ w m hart values f l holders free knows. record {
    after = f;
    line = λ at s. stay w at f m;
    value = sym (near.value hart values f knows);
    others = λ q x y z. refl;
  };
}

-- and where the rest of the form is made
pub address-made : (scope : List Held) (affine_form rest : AffineForm) (offset r : ℕ) (c0 c1 : List ℕ) → r < 32 → IsRest affine_form rest offset
    → MakesForm c0 c1 (sum_words rest.per_hart rest.sum.terms) scope r (λ hart values. form_value hart values rest)
    → MakesAddress c0 c1 (sum_words affine_form.per_hart affine_form.sum.terms) scope r r offset (λ hart values. form_value hart values affine_form)
address-made scope affine_form rest offset r c0 c1 low is x = record {
  insns = x.insns;
  emits = x.emits;
  short =
      let k = x.short in
      let n : length rest.sum.terms ≡ length affine_form.sum.terms = ap length is.terms in
      let p : base_words rest.per_hart ≡ base_words affine_form.per_hart = ap base_words is.per_hart in
      omega (arith, k, n, p);
  low = low;
  which = inl refl;
  fits = is.fits;
  small = is.small;
  does = λ w m hart values f l holders free knows.
      let a = x.does w m hart values f l holders free knows in
      record { after = a.after; line = a.line; value = ap (λ n. (n + offset) % 2 ^ 32) a.value ∙ sym (is.value hart values); others = a.others };
}

-- the part of a number that an immediate stands for
rest-number : (n offset s h : ℕ) → offset < 2 ^ 32
    → ((n + s) % 2 ^ 32 + h) % 2 ^ 32 ≡ ((((n + (2 ^ 32 - offset)) % 2 ^ 32 + s) % 2 ^ 32 + h) % 2 ^ 32 + offset) % 2 ^ 32
rest-number n offset s h small = omega (arith, small)

pub rest-is : (form rest : AffineForm) (offset : ℕ) → Fits offset → offset < 2 ^ 32 → rest.sum.terms ≡ form.sum.terms → rest.per_hart ≡ form.per_hart
    → rest.sum.number ≡ word.subtract form.sum.number offset → IsRest form rest offset
unfolding form_value linear_value word.subtract
rest-is form rest offset fit small terms part e = record {
  fits = fit;
  small = small;
  terms = terms;
  per_hart = part;
  value = λ hart values.
      let s = sum_of values form.sum.terms in
      let h = hart * form.per_hart in
      rest-number form.sum.number offset s h small
      ∙ sym (
      ap (λ n. (((n + sum_of values rest.sum.terms) % 2 ^ 32 + hart * rest.per_hart) % 2 ^ 32 + offset) % 2 ^ 32) e
      ∙ ap (λ ts. ((((form.sum.number + (2 ^ 32 - offset)) % 2 ^ 32 + sum_of values ts) % 2 ^ 32 + hart * rest.per_hart) % 2 ^ 32 + offset) % 2 ^ 32) terms
      ∙ ap (λ k. ((((form.sum.number + (2 ^ 32 - offset)) % 2 ^ 32 + s) % 2 ^ 32 + hart * k) % 2 ^ 32 + offset) % 2 ^ 32) part
      );
}
