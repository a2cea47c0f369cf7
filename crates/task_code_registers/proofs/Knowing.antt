-- What scopes know.
use Rattle.std.proofs.Common.{◌≡◌, ℕ, suc, ◌-◌, ◌^◌, ◌<◌, ◌≤◌, List, [], ◌∷◌, length, get_or, take, drop, true, false}
use Rattle.std.proofs.Common.{refl, ap, ◌∙◌, sym, arith, inl, inr}
use Rattle.std.specs.Prelude.{◌≢◌, not, nat_lt}
use Rattle.std.proofs.Math.Seq.{take-length}
use Rattle.std.proofs.lemmas.Bool.{and_parts, ltb-true}
use Rattle.loop_ir.specs.declared.expressions.Linear.{Linear}
use Rattle.loop_ir.specs.Counters.{Values}
use Rattle.loop_ir.specs.Expressions.{linear_value}
use Rattle.task_code_registers.specs.declared.scopes.AffineForm.{AffineForm}
use Rattle.task_code_registers.specs.declared.scopes.Held.{Held}
use Rattle.task_code_registers.specs.Registers.{zero_register, hart_number, scratch, second_scratch, address_register, first_value, may_hold, is_reserved}
use Rattle.task_code_registers.specs.Registers.{IsWorking}
use Rattle.task_code_registers.specs.Scopes.{Knows, AreHolders, IsHolder, IsKept, are_registers, form_value, WorkingRegistersAreFree}

-- ---- registers that may hold forms

pub record MayHold (q : ℕ) : Type 0 where
  pub low : 1 ≤ q
  pub high : q < first_value
  pub first : q ≢ scratch
  pub second : q ≢ second_scratch
  pub third : q ≢ address_register

pub fails-at : (q n : ℕ) → may_hold q ≡ true → may_hold n ≡ false → q ≢ n
fails-at q n t f e = let g : may_hold q ≡ false = ap may_hold e ∙ f in cc (t, g)

pub may-hold : (q : ℕ) → may_hold q ≡ true → MayHold q
may-hold q t = record {
  low = let n = fails-at q zero_register t refl in omega (arith, n);
  high = ltb-true q first_value (and_parts (nat_lt q first_value) (not (is_reserved q)) t).0;
  first = fails-at q scratch t refl;
  second = fails-at q second_scratch t refl;
  third = fails-at q address_register t refl;
}

-- ---- scopes

pub knows-zero : (hart : ℕ) (scope : List Held) (values : Values) (f : ℕ → ℕ) → Knows hart scope values f → f zero_register ≡ 0
knows-zero hart [] values f k = k.0
knows-zero hart (own ∷ others) values f k = knows-zero hart others values f k.1

pub knows-hart : (hart : ℕ) (scope : List Held) (values : Values) (f : ℕ → ℕ) → Knows hart scope values f → f hart_number ≡ hart
knows-hart hart [] values f k = k.1
knows-hart hart (own ∷ others) values f k = knows-hart hart others values f k.1

-- what is kept is known still
pub knows-still : (hart : ℕ) (scope : List Held) (values : Values) (f g : ℕ → ℕ) → ((q : ℕ) → IsKept scope q → g q ≡ f q) → Knows hart scope values f
    → Knows hart scope values g
knows-still hart [] values f g same k = (same zero_register (inl refl) ∙ k.0, same hart_number (inr (inl refl)) ∙ k.1)
knows-still hart (own ∷ others) values f g same k = (same own.register (inl refl) ∙ k.0, knows-still hart others values f g (λ q h. same q (inr h)) k.1)

-- and no register that holds a form is scratch
pub holder-apart : (q : ℕ) → IsHolder q → (q ≢ scratch) × (q ≢ second_scratch)
holder-apart q (inl t) = let m = may-hold q t in (m.first, m.second)
holder-apart q (inr o) = ((λ e. omega (arith, o, e)), (λ e. omega (arith, o, e)))

pub kept-apart : (scope : List Held) (q : ℕ) → AreHolders scope → IsKept scope q → (q ≢ scratch) × (q ≢ second_scratch)
kept-apart [] q holders o = ((λ e. omega (arith, o, e)), (λ e. omega (arith, o, e)))
kept-apart (own ∷ others) q holders (inl e) =
    let a = holder-apart own.register holders.0 in
    let one = a.0 in
    let two = a.1 in
    ((λ x. one (sym e ∙ x)), (λ x. two (sym e ∙ x)))
kept-apart (own ∷ others) q holders (inr h) = kept-apart others q holders.1.1 h

-- nor one in which values are made
holder-rests : (q r : ℕ) → IsHolder q → IsWorking r → q ≢ r
holder-rests q r (inl t) work e =
    let m = may-hold q t in
    let high = m.high in
    let a = m.first in
    let b = m.second in
    let c = m.third in
    omega (arith, work, e, high, a, b, c)
holder-rests q r (inr o) work e = omega (arith, o, work, e)

pub working-free : WorkingRegistersAreFree
working-free [] r holders work q h e = omega (arith, h, work, e)
working-free (own ∷ others) r holders work q (inl is) e = holder-rests own.register r holders.0 work (sym is ∙ e)
working-free (own ∷ others) r holders work q (inr h) e = working-free others r holders.1.1 work q h e

-- where registers hold all forms, no others are kept
pub kept-low : (scope : List Held) (q : ℕ) → are_registers scope ≡ true → IsKept scope q → q < 32
kept-low [] q all kept = omega (arith, kept)
kept-low (own ∷ others) q all (inl e) =
    let m = may-hold own.register (and_parts (may_hold own.register) (are_registers others) all).0 in
    let high = m.high in
    omega (arith, e, high)
kept-low (own ∷ others) q all (inr h) = kept-low others q (and_parts (may_hold own.register) (are_registers others) all).1 h

-- the first of a list, and those after it
pub others-are : {A : Type 0} (xs : List A) (other : A) → 1 ≤ length xs → xs ≡ get_or xs 0 other ∷ take (length xs - 1) (drop 1 xs)
others-are [] other some = absurd (omega (arith, some))
others-are (x ∷ xs) other some =
    let n : suc (length xs) - 1 ≡ length xs = omega arith in
    ap (λ ys. x ∷ ys) (sym (ap (λ (k : ℕ). take k xs) n ∙ take-length xs))

-- ---- values of forms

pub linear-small : (values : Values) (sum : Linear) → linear_value values sum < 2 ^ 32
unfolding linear_value
linear-small values sum = omega arith

pub form-small : (hart : ℕ) (values : Values) (form : AffineForm) → form_value hart values form < 2 ^ 32
unfolding form_value
form-small hart values form = omega arith
