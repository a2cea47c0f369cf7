-- Forms that are a held one and a scaled index.
use Rattle.std.proofs.Common.{◌≡◌, ℕ, ◌+◌, ◌*◌, ◌%◌, ◌^◌, ◌<◌, List, [], ◌∷◌, ◌++◌, Bool, true, false}
use Rattle.std.proofs.Common.{refl, ap, ◌∙◌, sym, subst, length, ◌≤◌, arith, inl, inr}
use Rattle.std.specs.Prelude.{if◌then◌else◌}
use Rattle.std.proofs.Math.Nat.{mod-add-mod, add-mod-mod}
use Rattle.std.proofs.lemmas.Nat.{mul-mod_first}
use Rattle.loop_ir.specs.declared.expressions.Counter.{Counter}
use Rattle.loop_ir.specs.declared.expressions.Linear.{Linear}
use Rattle.loop_ir.specs.declared.expressions.Term.{Term}
use Rattle.loop_ir.specs.Counters.{Values, same_counter, with}
use Rattle.loop_ir.specs.Expressions.{linear_value, sum_of}
use Rattle.task_code_scalar.proofs.Spelling.{emits_then}
use Rattle.task_code_registers.specs.declared.indexed.Indexed.{Indexed}
use Rattle.task_code_registers.specs.declared.scopes.AffineForm.{AffineForm}
use Rattle.task_code_registers.specs.declared.scopes.Held.{Held}
use Rattle.task_code_registers.specs.declared.sums.NearForm.{NearForm}
use Rattle.task_code_registers.specs.Indexed.{IsIndexed}
use Rattle.task_code_registers.specs.Emitting.{Fits, Makes, MakesOf, MakesForm, MakesAddress, IsNear, HoldsVariable, sum_words}
use Rattle.task_code_registers.specs.Holding.{IsAt}
use Rattle.task_code_registers.specs.Scopes.{Knows, IsKept, form_value}
use Rattle.task_code_registers.specs.Strides.{strides, others_of, has_counter}
use Rattle.task_code_registers.proofs.Agreeing.{sum-split}
use Rattle.task_code_registers.proofs.Knowing.{knows-zero, knows-still, kept-apart}
use Rattle.task_code_registers.proofs.Making.{puts-then, puts-is, short-then, base-least}
use Rattle.task_code_registers.proofs.Striding.{regrouped, linear-with, form-loop_invariant}

-- ---- values

-- what is left has no term of the variable
has-others : (counter : Counter) (terms : List Term) → has_counter counter (others_of counter terms) ≡ false
has-others counter [] = refl
has-others counter (first ∷ others) = by-test (same_counter first.counter counter) refl (has-others counter others)
  where
    by-test : (t : Bool) → same_counter first.counter counter ≡ t → has_counter counter (others_of counter others) ≡ false
        → has_counter counter (if t then others_of counter others else first ∷ others_of counter others) ≡ false
    by-test true s e = e
    by-test false s e = ap (λ b. if b then true else has_counter counter (others_of counter others)) s ∙ e

linear-split : (counter : Counter) (stride : ℕ) (values : Values) (new_sum : Linear) → stride ≡ strides counter new_sum.terms % 2 ^ 32
    → linear_value values new_sum ≡ ((new_sum.number + sum_of values (others_of counter new_sum.terms)) + values counter * stride) % 2 ^ 32
unfolding linear_value
linear-split counter stride values new_sum e =
    ap (λ s. (new_sum.number + s) % 2 ^ 32) (sum-split counter values new_sum.terms)
    ∙ regrouped new_sum.number (values counter) (strides counter new_sum.terms)
    (sum_of values (others_of counter new_sum.terms))
    ∙ ap (λ s. ((new_sum.number + sum_of values (others_of counter new_sum.terms)) + values counter * s) % 2 ^ 32)
    (sym e)

-- where the variable is 0, and what it adds
form-split : (counter : Counter) (stride hart : ℕ) (values : Values) (affine_form : AffineForm) → stride ≡ strides counter affine_form.sum.terms % 2 ^ 32
    → form_value hart values affine_form ≡ (form_value hart (with counter 0 values) affine_form + values counter *
    stride) % 2 ^ 32
unfolding form_value
form-split counter stride hart values affine_form e =
    let p = values counter * stride in
    let rest = affine_form.sum.number + sum_of values (others_of counter affine_form.sum.terms) in
    let h = hart * affine_form.per_hart in
    let none : rest + 0 * stride ≡ rest = omega arith in
    let g : ((rest + p) % 2 ^ 32 + h) % 2 ^ 32 ≡ ((rest % 2 ^ 32 + h) % 2 ^ 32 + p) % 2 ^ 32 = omega arith in
    ap (λ n. (n + h) % 2 ^ 32) (linear-split counter stride values affine_form.sum e) ∙ g
    ∙ ap (λ n. ((n + h) % 2 ^ 32 + p) % 2 ^ 32) (sym (linear-with counter 0 stride values affine_form.sum e ∙ ap (λ n. n % 2 ^ 32) none))

product-is : (n a v s : ℕ) → a ≡ v % 2 ^ 32 → (n + v * s) % 2 ^ 32 ≡ (n + a * s) % 2 ^ 32
product-is n a v s e =
    sym (add-mod-mod n (v * s) (2 ^ 32)) ∙ ap (λ k. (n + k) % 2 ^ 32) (sym (mul-mod_first v s (2 ^ 32)) ∙ ap (λ k. (k * s) % 2 ^ 32) (sym e))
    ∙ add-mod-mod n (a * s) (2 ^ 32)

module _ (scope : List Held) (form start : AffineForm) (terms : List Term) (counter : Counter) (base : NearForm) (s stride : ℕ)
    (at : IsAt counter 0 form start) (whole : terms ≡ form.sum.terms) (es : stride ≡ strides counter terms % 2 ^ 32)
    (is : IsNear scope start base.register base.number) (holds : HoldsVariable scope counter s) where
  at-zero : (hart : ℕ) (values : Values) → form_value hart values start ≡ form_value hart (with counter 0 values) form
  at-zero hart values =
      sym (form-loop_invariant counter 0 hart values start (ap (has_counter counter) at.terms ∙ has-others counter form.sum.terms)) ∙ at.value hart 0 values

  value-is : (hart : ℕ) (values : Values) (f : ℕ → ℕ) → Knows hart scope values f
      → form_value hart values form ≡ ((f base.register + base.number) + f s * stride) % 2 ^ 32
  value-is hart values f knows =
      let n = f base.register + base.number in
      let v = values counter in
      form-split counter stride hart values form (es ∙ ap (λ ts. strides counter ts % 2 ^ 32) whole)
      ∙ ap (λ k. (k + v * stride) % 2 ^ 32) (sym (at-zero hart values) ∙ is.value hart values f knows) ∙ mod-add-mod n (2 ^ 32) (v * stride)
      ∙ product-is n (f s) v stride (holds.value hart values f knows)

  pub is-indexed : Fits base.number → IsIndexed scope form (record { base = base; index = s; stride = stride })
  is-indexed fit = record {
    kept = is.kept;
    base_may = is.may;
    index_may = holds.may;
    fits = fit;
    word = is.word;
    value = value-is;
    small = λ hart values f knows.
        let word : values counter % 2 ^ 32 < 2 ^ 32 = omega arith in subst (λ n. n < 2 ^ 32) (sym (holds.value hart values f knows)) word;
  }

-- ---- code

module _ (scope : List Held) (form : AffineForm) (own_indexed : Indexed) (r : ℕ) (is : IsIndexed scope form own_indexed) (long : 2 ≤ length form.sum.terms) where
  abbrev q : ℕ
  q = own_indexed.base.register

  abbrev n : ℕ
  n = own_indexed.base.number

  least : 10 ≤ sum_words form.per_hart form.sum.terms
  least = let b = base-least form.per_hart in omega (arith, b, long)

  address-is : (p k : ℕ) → ((p % 2 ^ 32 + k * 1) % 2 ^ 32 + n) % 2 ^ 32 ≡ ((k + n) + p) % 2 ^ 32
  address-is p k = omega arith

  form-is : (p k : ℕ) → ((n + p) % 2 ^ 32 + k * 1) % 2 ^ 32 ≡ ((k + n) + p) % 2 ^ 32
  form-is p k = omega arith

  pub makes-address : (c0 c1 c2 : List ℕ) → r < 32 → Makes c0 c1 3 r
      (λ f. (f own_indexed.index * own_indexed.stride) % 2 ^ 32)
      → Makes c1 c2 4 r (λ f. (f r + f q * 1) % 2 ^ 32)
      → MakesAddress c0 c2 (sum_words form.per_hart form.sum.terms) scope r r n (λ hart values. form_value hart values form)
  makes-address c0 c1 c2 low x y = record {
    insns = x.insns ++ y.insns;
    emits = emits_then x.emits y.emits;
    short = short-then x.insns y.insns 3 4 (sum_words form.per_hart form.sum.terms) x.short y.short (let k = least in omega (arith, k));
    low = low;
    which = inl refl;
    fits = is.fits;
    small = is.word;
    does = λ w m hart values f l holders free knows.
        let a = x.does w m f l (knows-zero hart scope values f knows) in
        let still : (u : ℕ) → IsKept scope u → a.after u ≡ f u = λ u h. let t = kept-apart scope u holders h in a.others u (free u h) t.0 t.1 in
        let k = knows-still hart scope values f a.after still knows in
        let b = puts-then w m l a (inr (inr refl)) (y.does w m a.after l (knows-zero hart scope values a.after k)) in
        record {
          after = b.after;
          line = b.line;
          value =
              ap (λ v. (v + n) % 2 ^ 32) b.value ∙ ap (λ v. ((v + a.after q * 1) % 2 ^ 32 + n) % 2 ^ 32) a.value
              ∙ ap (λ v. (((f own_indexed.index * own_indexed.stride) % 2 ^ 32 + v * 1) % 2 ^ 32 + n) % 2 ^ 32)
              (still q is.kept)
              ∙ address-is (f own_indexed.index * own_indexed.stride) (f q) ∙ sym (is.value hart values f knows);
          others = b.others;
        };
  }

  pub makes-value : (c0 c1 c2 : List ℕ) → MakesOf c0 c1 6 r own_indexed.index
      (λ v. (n + v * own_indexed.stride) % 2 ^ 32)
      → Makes c1 c2 4 r (λ f. (f r + f q * 1) % 2 ^ 32)
      → MakesForm c0 c2 (sum_words form.per_hart form.sum.terms) scope r (λ hart values. form_value hart values form)
  makes-value c0 c1 c2 x y = record {
    insns = x.insns ++ y.insns;
    emits = emits_then x.emits y.emits;
    short = short-then x.insns y.insns 6 4 (sum_words form.per_hart form.sum.terms) x.short y.short (let k = least in omega (arith, k));
    does = λ w m hart values f l holders free knows.
        let a = x.does w m f l (knows-zero hart scope values f knows) (is.small hart values f knows) in
        let still : (u : ℕ) → IsKept scope u → a.after u ≡ f u = λ u h. let t = kept-apart scope u holders h in a.others u (free u h) t.0 t.1 in
        let k = knows-still hart scope values f a.after still knows in
        let b = y.does w m a.after l (knows-zero hart scope values a.after k) in
        let value : (a.after r + a.after q * 1) % 2 ^ 32 ≡ form_value hart values form =
        ap (λ v. (v + a.after q * 1) % 2 ^ 32) a.value
        ∙ ap (λ v. ((n + f own_indexed.index * own_indexed.stride) % 2 ^ 32 + v * 1) % 2 ^ 32) (still q is.kept)
        ∙ form-is (f own_indexed.index * own_indexed.stride) (f q) ∙ sym (is.value hart values f knows) in
        puts-then w m l a (inr (inr refl)) (puts-is w m l value b);
  }
