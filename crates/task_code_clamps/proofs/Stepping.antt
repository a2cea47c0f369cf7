-- Sums with a test are clamps.
use Rattle.std.proofs.Common.{◌≡◌, ℕ, ◌+◌, ◌%◌, ◌^◌, ◌<◌, ◌≤◌, ◌++◌, refl, ap, ◌∙◌, sym, subst, arith, inl, inr}
use Rattle.std.specs.Prelude.{Option, Some, None, IfSome}
use Rattle.std.proofs.lemmas.Bool.{lt-ltb, le-ltb, cases_lt}
use Rattle.halide_pipeline.specs.declared.expressions.Operation.{Operation}
use Rattle.halide_pipeline.specs.declared.expressions.Operation.TheVariants as op
use Rattle.halide_pipeline.specs.Words as word
use Rattle.halide_pipeline.specs.Words.{add, less, minimum, maximum, subtract, truth}
use Rattle.loop_ir.specs.declared.expressions.Expr.{Expr}
use Rattle.loop_ir.specs.declared.expressions.Expr.TheVariants as e
use Rattle.loop_ir.specs.declared.expressions.Linear.{Linear}
use Rattle.loop_ir.specs.Expressions.{linear_value, value, loads}
use Rattle.task_code_values.proofs.Evaluating.{value_number, value_linear, value_binary, loads_binary}
use Rattle.task_code_clamps.specs.declared.clamps.Ranged.{Ranged}
use Rattle.task_code_clamps.specs.declared.ranges.LevelRange.{LevelRange}
use Rattle.task_code_clamps.specs.Ranges.{level, LiesIn}
use Rattle.task_code_clamps.specs.Steps.{IsGreater, IsLesser, IsMore, IsSteppedDown, IsSteppedUp, IsTested}
use Rattle.task_code_clamps.proofs.Lying.{sum-word}
use Rattle.task_code_values.proofs.Leaves.{leaf-number, leaf-linear}

-- ---- words

up-maximum : (v n : ℕ) → v < 2 ^ 32 → n < 2 ^ 32 → level n ≤ level v + 1 → add v (truth (less v n)) ≡ maximum v n
unfolding add less
up-maximum v n sv sn l = elim (cases_lt (level v) (level n)) [
  | inl k ↦ rw (lt-ltb (level v) (level n) k) (omega (arith, sv, sn, l, k))
  | inr k ↦ rw (le-ltb (level v) (level n) k) (omega (arith, sv))
]

down-minimum : (v n : ℕ) → v < 2 ^ 32 → n < 2 ^ 32 → level v ≤ level n + 1 → subtract v (truth (less n v)) ≡ minimum v n
unfolding subtract less
down-minimum v n sv sn l = elim (cases_lt (level n) (level v)) [
  | inl k ↦ rw (lt-ltb (level n) (level v) k) (omega (arith, sv, sn, l, k))
  | inr k ↦ rw (le-ltb (level n) (level v) k) (omega (arith, sv))
]

-- from the word that is 1 more, or 1 less
next-level : (v : ℕ) → v < 2 ^ 32 → level v < 4294967295 → level ((v + 1) % 2 ^ 32) ≡ level v + 1
next-level v sv l = omega (arith, sv, l)

before-level : (v : ℕ) → v < 2 ^ 32 → 1 ≤ level v → level ((v + 4294967295) % 2 ^ 32) + 1 ≡ level v
before-level v sv l = omega (arith, sv, l)

down-maximum : (v n : ℕ) → v < 2 ^ 32 → n < 2 ^ 32 → level n ≤ level v + 1 → level v < 4294967295
    → subtract (add v 1) (truth (less n (add v 1))) ≡ maximum v n
unfolding add subtract less
down-maximum v n sv sn l high =
    let g = next-level v sv high in
    elim (cases_lt (level n) (level ((v + 1) % 2 ^ 32))) [
      | inl k ↦ rw (lt-ltb (level n) (level ((v + 1) % 2 ^ 32)) k) (rw (le-ltb (level v) (level n) (omega (arith, g, k))) (omega (arith, sv)))
      | inr k ↦ rw (le-ltb (level n) (level ((v + 1) % 2 ^ 32)) k) (rw (lt-ltb (level v) (level n) (omega (arith, g, k))) (omega (arith, sv, sn, l, g, k)))
    ]

up-minimum : (v n : ℕ) → v < 2 ^ 32 → n < 2 ^ 32 → level v ≤ level n + 1 → 1 ≤ level v
    → add (add v 4294967295) (truth (less (add v 4294967295) n)) ≡ minimum v n
unfolding add less
up-minimum v n sv sn l low =
    let g = before-level v sv low in
    elim (cases_lt (level ((v + 4294967295) % 2 ^ 32)) (level n)) [
      | inl k ↦ rw (lt-ltb (level ((v + 4294967295) % 2 ^ 32)) (level n) k) (rw (le-ltb (level n) (level v) (omega (arith, g, k))) (omega (arith, sv)))
      | inr k ↦ rw (le-ltb (level ((v + 4294967295) % 2 ^ 32)) (level n) k) (rw (lt-ltb (level n) (level v) (omega (arith, g, k)))
          (omega (arith, sv, sn, l, g, k)))
    ]

-- ---- expressions

module _ (new_sum first second : Linear) (number : ℕ) (bound third test last : Expr) where
  pub up-is : first ≡ new_sum → second ≡ new_sum → third ≡ e.Linear second → bound ≡ e.Number number → test ≡ e.Binary op.Less third bound → last ≡ e.Linear first
      → IsSteppedUp new_sum number (e.Binary op.Add last test)
  up-is e1 e2 e3 e4 e5 e6 =
      let made = e.Binary op.Add (e.Linear new_sum) (e.Binary op.Less (e.Linear new_sum) (e.Number number)) in
      let same : e.Binary op.Add last test ≡ made =
      ap (λ t. e.Binary op.Add t test) (e6 ∙ ap e.Linear e1)
      ∙ ap (e.Binary op.Add (e.Linear new_sum)) (e5 ∙ ap (λ t. e.Binary op.Less t bound) (e3 ∙ ap e.Linear e2) ∙ ap (e.Binary op.Less (e.Linear new_sum)) e4) in
      subst (λ t. IsSteppedUp new_sum number t) (sym same) (record {
        value_is = λ reads values.
            let v = linear_value values new_sum in
            value_binary reads values op.Add (e.Linear new_sum) (e.Binary op.Less (e.Linear new_sum) (e.Number number))
            ∙ ap (λ k. add k (value reads values (e.Binary op.Less (e.Linear new_sum) (e.Number number)))) (value_linear reads values new_sum)
            ∙ ap (add v) (value_binary reads values op.Less (e.Linear new_sum) (e.Number number)
            ∙ ap (λ k. truth (less k (value reads values (e.Number number)))) (value_linear reads values new_sum)
            ∙ ap (λ k. truth (less v k)) (value_number reads values number));
        none = λ reads values.
            loads_binary reads values op.Add (e.Linear new_sum) (e.Binary op.Less (e.Linear new_sum) (e.Number number))
            ∙ ap (λ l. l ++ loads reads values (e.Binary op.Less (e.Linear new_sum) (e.Number number))) (leaf-linear (e.Linear new_sum) new_sum refl reads values)
            ∙ loads_binary reads values op.Less (e.Linear new_sum) (e.Number number)
            ∙ ap (λ l. l ++ loads reads values (e.Number number))
            (leaf-linear (e.Linear new_sum) new_sum refl reads values)
            ∙ leaf-number (e.Number number) number refl reads values;
      })

  pub down-is : first ≡ new_sum → second ≡ new_sum → third ≡ e.Linear second → bound ≡ e.Number number → test ≡ e.Binary op.Less bound third → last ≡ e.Linear first
      → IsSteppedDown new_sum number (e.Binary op.Subtract last test)
  down-is e1 e2 e3 e4 e5 e6 =
      let made = e.Binary op.Subtract (e.Linear new_sum) (e.Binary op.Less (e.Number number) (e.Linear new_sum)) in
      let same : e.Binary op.Subtract last test ≡ made =
      ap (λ t. e.Binary op.Subtract t test) (e6 ∙ ap e.Linear e1)
      ∙ ap (e.Binary op.Subtract (e.Linear new_sum)) (e5 ∙ ap (λ t. e.Binary op.Less t third) e4 ∙ ap (e.Binary op.Less (e.Number number)) (e3 ∙ ap e.Linear e2)) in
      subst (λ t. IsSteppedDown new_sum number t) (sym same) (record {
        value_is = λ reads values.
            let v = linear_value values new_sum in
            value_binary reads values op.Subtract (e.Linear new_sum)
            (e.Binary op.Less (e.Number number) (e.Linear new_sum))
            ∙ ap (λ k. subtract k (value reads values (e.Binary op.Less (e.Number number) (e.Linear new_sum)))) (value_linear reads values new_sum)
            ∙ ap (subtract v) (value_binary reads values op.Less (e.Number number) (e.Linear new_sum)
            ∙ ap (λ k. truth (less k (value reads values (e.Linear new_sum)))) (value_number reads values number)
            ∙ ap (λ k. truth (less number k)) (value_linear reads values new_sum));
        none = λ reads values.
            loads_binary reads values op.Subtract (e.Linear new_sum)
            (e.Binary op.Less (e.Number number) (e.Linear new_sum))
            ∙ ap (λ l. l ++ loads reads values (e.Binary op.Less (e.Number number) (e.Linear new_sum))) (leaf-linear (e.Linear new_sum) new_sum refl reads values)
            ∙ loads_binary reads values op.Less (e.Number number) (e.Linear new_sum)
            ∙ ap (λ l. l ++ loads reads values (e.Linear new_sum))
            (leaf-number (e.Number number) number refl reads values)
            ∙ leaf-linear (e.Linear new_sum) new_sum refl reads values;
      })

-- ---- clamps

module _ (new_sum : Linear) (range : LevelRange) (number : ℕ) (small : number < 2 ^ 32) where
  pub greater-up : (expression : Expr) → level number ≤ range.low + 1 → IsSteppedUp new_sum number expression → IsGreater new_sum range number expression
  greater-up expression l up = record {
    value_is = λ reads values lies.
        let v = linear_value values new_sum in
        let low = lies.low in
        up.value_is reads values ∙ up-maximum v number (sum-word values new_sum) small (omega (arith, l, low));
    none = up.none;
  }

  pub greater-down : (next : Linear) (expression : Expr) → level number ≤ range.low + 1 → range.high < 4294967295 → IsMore new_sum 1 next → IsSteppedDown next number expression
      → IsGreater new_sum range number expression
  greater-down next expression l h more down = record {
    value_is = λ reads values lies.
        let v = linear_value values new_sum in
        let low = lies.low in
        let high = lies.high in
        down.value_is reads values ∙ ap (λ k. subtract k (truth (less number k))) (more values)
        ∙ down-maximum v number (sum-word values new_sum) small (omega (arith, l, low)) (omega (arith, h, high));
    none = down.none;
  }

  pub lesser-down : (expression : Expr) → range.high ≤ level number + 1 → IsSteppedDown new_sum number expression → IsLesser new_sum range number expression
  lesser-down expression l down = record {
    value_is = λ reads values lies.
        let v = linear_value values new_sum in
        let high = lies.high in
        down.value_is reads values ∙ down-minimum v number (sum-word values new_sum) small (omega (arith, l, high));
    none = down.none;
  }

  pub lesser-up : (before : Linear) (expression : Expr) → range.high ≤ level number + 1 → 1 ≤ range.low → IsMore new_sum 4294967295 before
      → IsSteppedUp before number expression
      → IsLesser new_sum range number expression
  lesser-up before expression l low more up = record {
    value_is = λ reads values lies.
        let v = linear_value values new_sum in
        let high = lies.high in
        let least = lies.low in
        up.value_is reads values ∙ ap (λ k. add k (truth (less k number))) (more values)
        ∙ up-minimum v number (sum-word values new_sum) small (omega (arith, l, high)) (omega (arith, low, least));
    none = up.none;
  }

-- ---- as operations

pub greater-tested : (o : Operation) (a b : Ranged) (new_sum : Linear) (number : ℕ) (expression : Option Expr) → o ≡ op.Maximum → a.e ≡ e.Linear new_sum
    → b.e ≡ e.Number number → IfSome expression (IsGreater new_sum a.range number) → IfSome expression (IsTested o a b)
greater-tested o a b new_sum number None eo ea eb is = tt
greater-tested o a b new_sum number (Some made) eo ea eb is = record {
  value_is = λ reads values lies.
      let v = ap (λ x. value reads values x) ea ∙ value_linear reads values new_sum in
      let w = ap (λ x. value reads values x) eb ∙ value_number reads values number in
      is.value_is reads values (subst (λ n. LiesIn a.range n) v lies)
      ∙ sym (ap (λ k. word.applied k (value reads values a.e) (value reads values b.e)) eo ∙ ap (λ n. maximum n (value reads values b.e)) v
      ∙ ap (maximum (linear_value values new_sum)) w);
  none = is.none;
  first_none = leaf-linear a.e new_sum ea;
  second_none = leaf-number b.e number eb;
}

pub lesser-tested : (o : Operation) (a b : Ranged) (new_sum : Linear) (number : ℕ) (expression : Option Expr) → o ≡ op.Minimum → a.e ≡ e.Linear new_sum
    → b.e ≡ e.Number number → IfSome expression (IsLesser new_sum a.range number) → IfSome expression (IsTested o a b)
lesser-tested o a b new_sum number None eo ea eb is = tt
lesser-tested o a b new_sum number (Some made) eo ea eb is = record {
  value_is = λ reads values lies.
      let v = ap (λ x. value reads values x) ea ∙ value_linear reads values new_sum in
      let w = ap (λ x. value reads values x) eb ∙ value_number reads values number in
      is.value_is reads values (subst (λ n. LiesIn a.range n) v lies)
      ∙ sym (ap (λ k. word.applied k (value reads values a.e) (value reads values b.e)) eo ∙ ap (λ n. minimum n (value reads values b.e)) v
      ∙ ap (minimum (linear_value values new_sum)) w);
  none = is.none;
  first_none = leaf-linear a.e new_sum ea;
  second_none = leaf-number b.e number eb;
}
