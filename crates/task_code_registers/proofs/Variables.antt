-- Registers of loop variables.
use Rattle.std.proofs.Common.{◌≡◌, ℕ, ◌+◌, ◌-◌, ◌*◌, ◌%◌, ◌^◌, ◌≤◌, List, [], ◌∷◌, length, get_or, take, drop, true}
use Rattle.std.proofs.Common.{refl, ap, ◌∙◌, sym, arith}
use Rattle.std.specs.Prelude.{◌==◌, ◌&&◌, ◌||◌}
use Rattle.std.proofs.lemmas.Bool.{and_parts, eq-eqb, eqb-true, true≢false}
use Rattle.halide_pipeline.specs.declared.expressions.Variable.{Variable}
use Rattle.halide_pipeline.specs.declared.expressions.Variable.TheVariants as variables
use Rattle.halide_pipeline.specs.Expressions.{same_variable}
use Rattle.schedule_lines.specs.declared.stages.LoopId.{LoopId}
use Rattle.schedule_lines.specs.declared.stages.LoopId.TheVariants as ids
use Rattle.schedule_lines.specs.Directives.{same_id}
use Rattle.loop_ir.specs.declared.expressions.Counter.{Counter}
use Rattle.loop_ir.specs.declared.expressions.Term.{Term}
use Rattle.loop_ir.specs.Counters.{Values, same_counter}
use Rattle.loop_ir.specs.Expressions.{linear_value, sum_of}
use Rattle.task_code_registers.specs.declared.scopes.AffineForm.{AffineForm}
use Rattle.task_code_registers.specs.declared.scopes.Held.{Held}
use Rattle.task_code_registers.specs.Emitting.{HoldsVariable}
use Rattle.task_code_registers.specs.Registers.{may_hold}
use Rattle.task_code_registers.specs.Scopes.{form_value, is_variable, is_once, has_variable, have_registers}
use Rattle.task_code_registers.proofs.Knowing.{others-are}

-- ---- variables that are the same

same_variable-true : (a b : Variable) → same_variable a b ≡ true → a ≡ b
same_variable-true variables.FirstArgument variables.FirstArgument e = refl
same_variable-true variables.SecondArgument variables.SecondArgument e = refl
same_variable-true variables.FirstReduction variables.FirstReduction e = refl
same_variable-true variables.SecondReduction variables.SecondReduction e = refl
same_variable-true _ _ e = cc

same_id-true : (a b : LoopId) → same_id a b ≡ true → a ≡ b
same_id-true (ids.Whole a) (ids.Whole b) e = ap (λ (v : Variable). ids.Whole v) (same_variable-true a b e)
same_id-true (ids.Outer a) (ids.Outer b) e = ap (λ (k : ℕ). ids.Outer k) (eqb-true a b e)
same_id-true (ids.Inner a) (ids.Inner b) e = ap (λ (k : ℕ). ids.Inner k) (eqb-true a b e)
same_id-true _ _ e = cc

pub same_counter-true : (a b : Counter) → same_counter a b ≡ true → a ≡ b
same_counter-true a b t =
    let each = and_parts (a.func == b.func) (same_id a.id b.id) t in
    let func : a.func ≡ b.func = eqb-true a.func b.func each.0 in
    let id : a.id ≡ b.id = same_id-true a.id b.id each.1 in
    ap (λ n. record { func = n; id = a.id }) func ∙ ap (λ i. record { func = b.func; id = i }) id

same_variable-self : (a : Variable) → same_variable a a ≡ true
same_variable-self variables.FirstArgument = refl
same_variable-self variables.SecondArgument = refl
same_variable-self variables.FirstReduction = refl
same_variable-self variables.SecondReduction = refl

same_id-self : (a : LoopId) → same_id a a ≡ true
same_id-self (ids.Whole a) = same_variable-self a
same_id-self (ids.Outer a) = eq-eqb a a refl
same_id-self (ids.Inner a) = eq-eqb a a refl

pub same_counter-self : (a : Counter) → same_counter a a ≡ true
same_counter-self a = ap (λ t. t && same_id a.id a.id) (eq-eqb a.func a.func refl) ∙ same_id-self a.id

-- ---- forms that are a variable alone

once-value : (counter : Counter) (terms : List Term) (values : Values) → is_once counter terms ≡ true → sum_of values terms ≡ values counter
once-value counter [] values t = absurd (true≢false (sym t))
once-value counter (own ∷ []) values t =
    let each = and_parts (same_counter own.counter counter) (own.stride == 1) t in
    let stride : own.stride ≡ 1 = eqb-true own.stride 1 each.1 in
    let g : values counter * 1 + 0 ≡ values counter = omega arith in
    ap (λ c. values c * own.stride + 0) (same_counter-true own.counter counter each.0) ∙ ap (λ s. values counter * s + 0) stride ∙ g
once-value counter (own ∷ (next ∷ others)) values t = absurd (true≢false (sym t))

variable-value : (counter : Counter) (form : AffineForm) (hart : ℕ) (values : Values) → is_variable counter form ≡ true
    → form_value hart values form ≡ values counter % 2 ^ 32
unfolding form_value linear_value
variable-value counter form hart values t =
    let each = and_parts (form.sum.number == 0) (form.per_hart == 0 && is_once counter form.sum.terms) t in
    let more = and_parts (form.per_hart == 0) (is_once counter form.sum.terms) each.1 in
    let number : form.sum.number ≡ 0 = eqb-true form.sum.number 0 each.0 in
    let part : form.per_hart ≡ 0 = eqb-true form.per_hart 0 more.0 in
    let v = values counter in
    let g : ((0 + v) % 2 ^ 32 + hart * 0) % 2 ^ 32 ≡ v % 2 ^ 32 = omega arith in
    ap (λ n. ((n + sum_of values form.sum.terms) % 2 ^ 32 + hart * form.per_hart) % 2 ^ 32) number
    ∙ ap (λ n. ((0 + n) % 2 ^ 32 + hart * form.per_hart) % 2 ^ 32) (once-value counter form.sum.terms values more.1)
    ∙ ap (λ n. ((0 + v) % 2 ^ 32 + hart * n) % 2 ^ 32) part ∙ g

-- ---- registers that hold them

pub variable-first : (scope : List Held) (item other : Held) (counter : Counter) → 1 ≤ length scope → item ≡ get_or scope 0 other
    → may_hold item.register ≡ true
    → is_variable counter item.form ≡ true → HoldsVariable scope counter item.register
variable-first [] item other counter some ei may is = absurd (omega (arith, some))
variable-first (first ∷ others) item other counter some ei may is = record {
  may = may;
  value = λ hart values f knows.
      ap (λ (h : Held). f h.register) ei ∙ knows.0 ∙ ap (λ (h : Held). form_value hart values h.form) (sym ei)
      ∙ variable-value counter item.form hart values is;
}

-- ---- terms whose variables have registers

module _ (scope : List Held) (terms : List Term) (other : Term) (some : 1 ≤ length terms) (have : have_registers scope terms ≡ true) where
  abbrev first : Term
  first = get_or terms 0 other

  abbrev rest : List Term
  rest = take (length terms - 1) (drop 1 terms)

  both : (((first.stride == 0) || has_variable scope first.counter) ≡ true) × (have_registers scope rest ≡ true)
  both = and_parts (first.stride == 0 || has_variable scope first.counter) (have_registers scope rest)
      (sym (ap (have_registers scope) (others-are terms other some)) ∙ have)
