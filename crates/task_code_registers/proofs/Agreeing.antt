-- Sums whose strides are the same in all.
use Rattle.std.proofs.Common.{◌≡◌, ℕ, zero, suc, ◌+◌, ◌-◌, ◌*◌, ◌%◌, ◌^◌, ◌≤◌, List, [], ◌∷◌, length, get_or, take, drop, Bool, true, false}
use Rattle.std.proofs.Common.{refl, ap, ◌∙◌, sym, arith, inl, inr}
use Rattle.std.specs.Prelude.{◌⊎◌, if◌then◌else◌}
use Rattle.std.proofs.lemmas.Nat.{mul-mod_second}
use Rattle.std.proofs.lemmas.Bool.{true≢false}
use Rattle.std.proofs.Math.Nat.{mod-add-mod, add-mod-mod, mul-add}
use Rattle.loop_ir.specs.declared.expressions.Counter.{Counter}
use Rattle.loop_ir.specs.declared.expressions.Term.{Term}
use Rattle.loop_ir.specs.Counters.{Values, same_counter}
use Rattle.loop_ir.specs.Expressions.{sum_of}
use Rattle.task_code_registers.specs.Strides.{AgreeOn, strides, others_of, has_counter}
use Rattle.task_code_registers.proofs.Knowing.{others-are}
use Rattle.task_code_registers.proofs.Striding.{strides-none, strides-others, others-fewer}
use Rattle.task_code_registers.proofs.Variables.{same_counter-true, same_counter-self}

-- ---- a sum by one of its variables

-- what the variable adds, and the rest
pub sum-split : (counter : Counter) (values : Values) (terms : List Term)
    → sum_of values terms ≡ values counter * strides counter terms + sum_of values (others_of counter terms)
sum-split counter values [] = let e : 0 ≡ values counter * 0 + 0 = omega arith in e
sum-split counter values (first ∷ others) = by-test (same_counter first.counter counter) refl (sum-split counter values others)
  where
    by-test : (t : Bool) → same_counter first.counter counter ≡ t
        → sum_of values others ≡ values counter * strides counter others + sum_of values (others_of counter others)
        → values first.counter * first.stride + sum_of values others
        ≡ values counter * (if t then first.stride + strides counter others else strides counter others) + sum_of values
        (if t then others_of counter others else first ∷ others_of counter others)
    by-test true s e =
        let v = values counter in
        let p : v * (first.stride + strides counter others) ≡ v * first.stride + v * strides counter others =
        mul-add v first.stride (strides counter others) in
        let w : values first.counter * first.stride ≡ v * first.stride =
        ap (λ c. values c * first.stride) (same_counter-true first.counter counter s) in
        omega (arith, e, p, w)
    by-test false s e = omega (arith, e)

-- of other variables the rest has the same strides
strides-kept : (counter loop_counter : Counter) (terms : List Term) → same_counter loop_counter counter ≡ false
    → strides loop_counter (others_of counter terms) ≡ strides loop_counter terms
strides-kept counter loop_counter [] apart = refl
strides-kept counter loop_counter (first ∷ others) apart =
    by-test (same_counter first.counter counter) (same_counter first.counter loop_counter) refl refl (strides-kept counter loop_counter others apart)
  where
    by-test : (t u : Bool) → same_counter first.counter counter ≡ t → same_counter first.counter loop_counter ≡ u
        → strides loop_counter (others_of counter others) ≡ strides loop_counter others
        → strides loop_counter (if t then others_of counter others else first ∷ others_of counter others)
        ≡ (if u then first.stride + strides loop_counter others else strides loop_counter others)
    by-test true true s r e =
        absurd (true≢false (sym (ap (λ c. same_counter c counter) (sym (same_counter-true first.counter loop_counter r)) ∙ s) ∙ apart))
    by-test true false s r e = e
    by-test false u s r e =
        ap (λ b. if b then first.stride + strides loop_counter (others_of counter others) else strides loop_counter (others_of counter others)) r
        ∙ ap (λ n. if u then first.stride + n else n) e

-- without the first one's variable there are fewer terms
others-less : (first : Term) (others : List Term) → length (others_of first.counter (first ∷ others)) ≤ length others
others-less first others = by-test (same_counter first.counter first.counter) (same_counter-self first.counter)
  where
    by-test : (t : Bool) → t ≡ true → length (if t then others_of first.counter others else first ∷ others_of first.counter others) ≤ length others
    by-test true e = others-fewer first.counter others
    by-test false e = absurd (true≢false (sym e))

-- ---- sums that agree

abbrev Agree : List Term → List Term → Type 0
Agree a b = (counter : Counter) → strides counter a % 2 ^ 32 ≡ strides counter b % 2 ^ 32

agree-others : (counter : Counter) (a b : List Term) → Agree a b → Agree (others_of counter a) (others_of counter b)
agree-others counter a b agree own = by-test (same_counter own counter) refl
  where
    none : (terms : List Term) → same_counter own counter ≡ true → strides own (others_of counter terms) ≡ 0
    none terms s = ap (λ c. strides c (others_of counter terms)) (same_counter-true own counter s) ∙ strides-others counter terms

    by-test : (t : Bool) → same_counter own counter ≡ t
        → strides own (others_of counter a) % 2 ^ 32 ≡ strides own (others_of counter b) % 2 ^ 32
    by-test true s = ap (λ n. n % 2 ^ 32) (none a s ∙ sym (none b s))
    by-test false s =
        ap (λ n. n % 2 ^ 32) (strides-kept counter own a s) ∙ agree own ∙ ap (λ n. n % 2 ^ 32) (sym (strides-kept counter own b s))

part-agrees : (v s t p q : ℕ) → s % 2 ^ 32 ≡ t % 2 ^ 32 → p % 2 ^ 32 ≡ q % 2 ^ 32 → (v * s + p) % 2 ^ 32 ≡ (v * t + q) % 2 ^ 32
part-agrees v s t p q es ep =
    sym (add-mod-mod (v * s) p (2 ^ 32)) ∙ ap (λ n. (v * s + n) % 2 ^ 32) ep ∙ add-mod-mod (v * s) q (2 ^ 32)
    ∙ sym (mod-add-mod (v * s) (2 ^ 32) q)
    ∙ ap (λ n. (n + q) % 2 ^ 32) (sym (mul-mod_second v s (2 ^ 32)) ∙ ap (λ n. (v * n) % 2 ^ 32) es ∙ mul-mod_second v t (2 ^ 32))
    ∙ mod-add-mod (v * t) (2 ^ 32) q

step : (counter : Counter) (values : Values) (a b : List Term) → Agree a b
    → sum_of values (others_of counter a) % 2 ^ 32 ≡ sum_of values (others_of counter b) % 2 ^ 32
    → sum_of values a % 2 ^ 32 ≡ sum_of values b % 2 ^ 32
step counter values a b agree e =
    ap (λ n. n % 2 ^ 32) (sum-split counter values a)
    ∙ part-agrees (values counter) (strides counter a) (strides counter b) (sum_of values (others_of counter a)) (sum_of values (others_of counter b))
    (agree counter) e
    ∙ ap (λ n. n % 2 ^ 32) (sym (sum-split counter values b))

-- by how many terms there are at most
sums-agree : (n : ℕ) (values : Values) (a b : List Term) → length a + length b ≤ n → Agree a b
    → sum_of values a % 2 ^ 32 ≡ sum_of values b % 2 ^ 32
sums-agree n values [] [] few agree = refl
sums-agree zero values (first ∷ others) b few agree = absurd (omega (arith, few))
sums-agree zero values [] (first ∷ others) few agree = absurd (omega (arith, few))
sums-agree (suc n) values (first ∷ others) b few agree =
    let c = first.counter in
    let one = others-less first others in
    let two = others-fewer c b in
    step c values (first ∷ others) b agree
    (sums-agree n values (others_of c (first ∷ others)) (others_of c b) (omega (arith, few, one, two)) (agree-others c (first ∷ others) b agree))
sums-agree (suc n) values [] (first ∷ others) few agree =
    let c = first.counter in
    let one = others-less first others in
    step c values [] (first ∷ others) agree
    (sums-agree n values [] (others_of c (first ∷ others)) (omega (arith, few, one)) (agree-others c [] (first ∷ others) agree))

-- ---- as it is tested

-- one more variable
pub agree-more : (terms a b : List Term) (other : Term) (s t : ℕ) → 1 ≤ length terms → s ≡ strides (get_or terms 0 other).counter a % 2 ^ 32
    → t ≡ strides (get_or terms 0 other).counter b % 2 ^ 32 → s ≡ t → AgreeOn (take (length terms - 1) (drop 1 terms)) a b → AgreeOn terms a b
agree-more terms a b other s t some es et e rest counter =
    one-more (get_or terms 0 other) (take (length terms - 1) (drop 1 terms)) (others-are terms other some) (sym es ∙ e ∙ et) (rest counter)
  where
    one-more : (first : Term) (others : List Term) → terms ≡ first ∷ others
        → strides first.counter a % 2 ^ 32 ≡ strides first.counter b % 2 ^ 32
        → (has_counter counter others ≡ false) ⊎ (strides counter a % 2 ^ 32 ≡ strides counter b % 2 ^ 32)
        → (has_counter counter terms ≡ false) ⊎ (strides counter a % 2 ^ 32 ≡ strides counter b % 2 ^ 32)
    one-more first others is agree h = by-test (same_counter first.counter counter) refl h
      where
        by-test : (u : Bool) → same_counter first.counter counter ≡ u
            → (has_counter counter others ≡ false) ⊎ (strides counter a % 2 ^ 32 ≡ strides counter b % 2 ^ 32)
            → (has_counter counter terms ≡ false) ⊎ (strides counter a % 2 ^ 32 ≡ strides counter b % 2 ^ 32)
        by-test true r k =
            let same = same_counter-true first.counter counter r in
            inr (ap (λ c. strides c a % 2 ^ 32) (sym same) ∙ agree ∙ ap (λ c. strides c b % 2 ^ 32) same)
        by-test false r (inl none) =
            inl (ap (has_counter counter) is ∙ ap (λ u. if u then true else has_counter counter others) r ∙ none)
        by-test false r (inr same) = inr same

-- Of all variables of both sums they agree.
pub both-agree : (a b : List Term) → AgreeOn a a b → AgreeOn b a b → (values : Values) → sum_of values a % 2 ^ 32 ≡ sum_of values b % 2 ^ 32
both-agree a b first second values = sums-agree (length a + length b) values a b (omega arith) agree
  where
    by-both : (counter : Counter) → (has_counter counter a ≡ false) ⊎ (strides counter a % 2 ^ 32 ≡ strides counter b % 2 ^ 32)
        → (has_counter counter b ≡ false) ⊎ (strides counter a % 2 ^ 32 ≡ strides counter b % 2 ^ 32)
        → strides counter a % 2 ^ 32 ≡ strides counter b % 2 ^ 32
    by-both counter (inr is) h = is
    by-both counter (inl none) (inr is) = is
    by-both counter (inl none) (inl neither) = ap (λ n. n % 2 ^ 32) (strides-none counter a none ∙ sym (strides-none counter b neither))

    agree : Agree a b
    agree counter = by-both counter (first counter) (second counter)
