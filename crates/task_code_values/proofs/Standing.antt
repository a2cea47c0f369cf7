-- Operands: numbers and sums of loop variables, and the registers that stay while values are made.
use Rattle.std.proofs.Common.{◌≡◌, ℕ, ◌+◌, ◌*◌, ◌%◌, ◌^◌, ◌<◌, ◌≤◌, List, [], ◌∷◌, length, refl, ap, ◌∙◌, sym, subst, arith, inl, inr}
use Rattle.std.specs.Prelude.{◌≢◌, ◌⊎◌}
use Rattle.loop_ir.specs.declared.expressions.Linear.{Linear}
use Rattle.loop_ir.specs.Counters.{Values}
use Rattle.loop_ir.specs.Expressions.{linear_value}
use Rattle.multi_hart_laws.proofs.Paths.{stay}
use Rattle.task_code_scalar.proofs.Spelling.{emits-none}
use Rattle.task_code_registers.specs.declared.scopes.AffineForm.{AffineForm}
use Rattle.task_code_registers.specs.declared.scopes.Held.{Held}
use Rattle.task_code_registers.specs.Emitting.{Makes, MakesForm, IsNear, MakesValue, base_words}
use Rattle.task_code_registers.specs.Registers.{zero_register, scratch, second_scratch, address_register, IsPlace}
use Rattle.task_code_registers.specs.Scopes.{AreHolders, IsHolder, IsKept, form_value}
use Rattle.task_code_registers.proofs.Knowing.{may-hold, knows-zero, linear-small}
use Rattle.task_code_values.specs.Making.{IsBelow, MakesHeld}

-- ---- registers that stay

holder-below : (q r : ℕ) → 20 ≤ r → IsHolder q → IsBelow r q
holder-below q r low (inl may) =
    let m = may-hold q may in
    let high = m.high in
    let a = m.first in
    let b = m.second in
    let c = m.third in
    (apart a b c, inl (omega (arith, high, low)))
  where
    by : (q < 13) ⊎ (13 ≤ q) → q ≢ 13 → q ≢ 14 → q ≢ 15 → (q < scratch) ⊎ (address_register < q)
    by (inl l) a b c = inl l
    by (inr l) a b c = inr (omega (arith, l, a, b, c))

    side : (n : ℕ) → (n < 13) ⊎ (13 ≤ n)
    side n = grind arith

    apart : q ≢ 13 → q ≢ 14 → q ≢ 15 → (q < scratch) ⊎ (address_register < q)
    apart a b c = by (side q) a b c
holder-below q r low (inr o) = (inr (omega (arith, o)), inr (omega (arith, o)))

-- the scope's registers stay
pub kept-below : (scope : List Held) (q r : ℕ) → 20 ≤ r → AreHolders scope → IsKept scope q → IsBelow r q
kept-below [] q r low holders (inl e) = (inl (omega (arith, e)), inl (omega (arith, e, low)))
kept-below [] q r low holders (inr o) = (inl (omega (arith, o)), inl (omega (arith, o, low)))
kept-below (own ∷ others) q r low holders (inl e) = subst (IsBelow r) (sym e) (holder-below own.register r low holders.0)
kept-below (own ∷ others) q r low holders (inr h) = kept-below others q r low holders.1.1 h

pub below-more : (r s q : ℕ) → r ≤ s → IsBelow r q → IsBelow s q
below-more r s q l k = (k.0, by k.1)
  where
    by : (q < r) ⊎ (31 < q) → (q < s) ⊎ (31 < q)
    by (inl h) = inl (omega (arith, h, l))
    by (inr h) = inr h

-- and are no scratch registers, nor where a value or an address is made
pub below-apart : (r own q : ℕ) → (own ≡ address_register) ⊎ ((own ≡ r) × (r < 32)) → IsBelow r q → (q ≢ own) × ((q ≢ scratch) × (q ≢ second_scratch))
below-apart r own q is k =
    let k0 = k.0 in
    (by is, ((λ e. omega (arith, e, k0)), (λ e. omega (arith, e, k0))))
  where
    by : (own ≡ address_register) ⊎ ((own ≡ r) × (r < 32)) → q ≢ own
    by (inl e) g = let k0 = k.0 in omega (arith, e, g, k0)
    by (inr h) g = let k1 = k.1 in let e = h.0 in let l = h.1 in omega (arith, e, l, g, k1)

-- ---- forms without a part of the hart's number

pub form-alone : (hart : ℕ) (values : Values) (form : AffineForm) (new_sum : Linear) → form.per_hart ≡ 0
    → form.sum ≡ new_sum
    → form_value hart values form ≡ linear_value values new_sum
unfolding form_value
form-alone hart values form new_sum none same =
    let small = linear-small values new_sum in
    let v = linear_value values new_sum in
    let g : (v + hart * 0) % 2 ^ 32 ≡ v = omega (arith, small) in
    ap (λ k. (linear_value values form.sum + hart * k) % 2 ^ 32) none ∙ ap (λ (k : Linear). (linear_value values k + hart * 0) % 2 ^ 32) same ∙ g

pub number-alone : (hart : ℕ) (values : Values) (form : AffineForm) (n : ℕ) → n < 2 ^ 32 → form.per_hart ≡ 0 → ((vs : Values) → linear_value vs form.sum ≡ n)
    → form_value hart values form ≡ n
number-alone hart values form n small none is = form-alone hart values form form.sum none refl ∙ is values

-- ---- operands

-- x0 is 0
pub held-zero : (scope : List Held) (r n most : ℕ) (c : List ℕ) → n ≡ 0 → MakesHeld c c most scope r zero_register (λ hart values. n)
held-zero scope r n most c none = record {
  insns = [];
  emits = emits-none c;
  short = let z : 0 ≤ most = omega arith in z;
  source = (omega arith, ((λ e. omega (arith, e)), (λ e. omega (arith, e))));
  which = inr (zero-kept scope);
  does = λ w m hart values f l holders free knows. record {
    after = f;
    line = λ at s. stay w at f m;
    value = knows-zero hart scope values f knows ∙ sym none;
    others = λ q x y z. refl;
  };
}
  where
    zero-kept : (scope : List Held) → IsKept scope zero_register
    zero-kept [] = inl refl
    zero-kept (own ∷ others) = inr (zero-kept others)

-- a register of the scope holds the form
pub held-near : (scope : List Held) (form : AffineForm) (r s d most : ℕ) (c : List ℕ) (says : ℕ → Values → ℕ) → IsNear scope form s d → d ≡ 0
    → ((hart : ℕ) (values : Values) → form_value hart values form ≡ says hart values) → MakesHeld c c most scope r s says
held-near scope form r s d most c says near none is = record {
  insns = [];
  emits = emits-none c;
  short = let z : 0 ≤ most = omega arith in z;
  source = let m = may-hold s near.may in let high = m.high in (omega (arith, high), (m.first, m.second));
  which = inr near.kept;
  does = λ w m hart values f l holders free knows.
      let small = near.small hart values f knows in
      let g : (f s + 0) % 2 ^ 32 ≡ f s = omega (arith, small) in
      record {
        after = f;
        line = λ at st. stay w at f m;
        value = sym (sym (is hart values) ∙ near.value hart values f knows ∙ ap (λ k. (f s + k) % 2 ^ 32) none ∙ g);
        others = λ q x y z. refl;
      };
}

-- or it is made
pub held-made : (scope : List Held) (n most r : ℕ) (c0 c1 : List ℕ) (says : ℕ → Values → ℕ) → IsPlace r → n ≤ most → MakesForm c0 c1 n scope r says
    → MakesHeld c0 c1 most scope r r says
held-made scope n most r c0 c1 says place fits x = record {
  insns = x.insns;
  emits = x.emits;
  short = let k = x.short in omega (arith, k, fits);
  source = (place.0.1, (place.1.0, place.1.1));
  which = inl refl;
  does = λ w m hart values f l holders free knows.
      let a = x.does w m hart values f l holders free knows in
      record { after = a.after; line = a.line; value = a.value; others = a.others };
}

pub number-made : (scope : List Held) (r n : ℕ) (c0 c1 : List ℕ) → IsPlace r → Makes c0 c1 2 r (λ f. n) → MakesHeld c0 c1 2 scope r r (λ hart values. n)
number-made scope r n c0 c1 place x = record {
  insns = x.insns;
  emits = x.emits;
  short = x.short;
  source = (place.0.1, (place.1.0, place.1.1));
  which = inl refl;
  does = λ w m hart values f l holders free knows.
      let a = x.does w m f l (knows-zero hart scope values f knows) in
      record { after = a.after; line = a.line; value = a.value; others = a.others };
}

pub sum-made : (scope : List Held) (form : AffineForm) (new_sum : Linear) (r : ℕ) (c0 c1 : List ℕ) → IsPlace r → form.per_hart ≡ 0 → form.sum ≡ new_sum
    → MakesValue c0 c1 scope form r → MakesHeld c0 c1 (2 + 4 * length new_sum.terms) scope r r (λ hart values. linear_value values new_sum)
sum-made scope form new_sum r c0 c1 place none same x = record {
  insns = x.insns;
  emits = x.emits;
  short =
      let k = x.short in
      let p : base_words form.per_hart ≡ 2 = ap base_words none in
      let e : length form.sum.terms ≡ length new_sum.terms = ap (λ (s : Linear). length s.terms) same in
      omega (arith, k, p, e);
  source = (place.0.1, (place.1.0, place.1.1));
  which = inl refl;
  does = λ w m hart values f l holders free knows.
      let a = x.does w m hart values f l holders free knows in
      record { after = a.after; line = a.line; value = a.value ∙ form-alone hart values form new_sum none same; others = a.others };
}
