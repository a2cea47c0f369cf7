-- Where variables stand.
use Rattle.std.proofs.Common.{◌≡◌, ℕ, ◌+◌, ◌*◌, ◌%◌, ◌^◌, ◌<◌, Bool, true, false, cond, refl, ap, sym, ◌∙◌, arith}
use Rattle.std.specs.Prelude.{◌&&◌, ◌==◌, None}
use Rattle.std.proofs.lemmas.Bool.{and_parts, eq-eqb, eqb-true, true≢false}
use mathlib.Core.Path.{fun_ext}
use Rattle.halide_pipeline.specs.Words as word
use Rattle.schedule_lines.specs.Directives.{same_id}
use Rattle.loop_ir.specs.declared.expressions.Counter.{Counter}
use Rattle.loop_ir.specs.declared.statements.Whole.{Whole}
use Rattle.loop_ir.specs.Counters.{Values, same_counter, with}
use Rattle.loop_ir.specs.Running.{at_most, whole_value}
use Rattle.task_code_borders.specs.Borders.{AreNumbers, borders, is_border, iteration, number, of_stages}

-- ---- one more variable

-- what a variable is of stays where another one is the same
func_same : (a b : Counter) → same_counter a b ≡ true → is_border a ≡ is_border b
func_same a b same = ap (λ n. n == borders) (eqb-true a.func b.func (and_parts (a.func == b.func) (same_id a.id b.id) same).0)

pub other_than_stages : (border counter : Counter) → is_border border ≡ true → is_border counter ≡ false → same_counter border counter ≡ false
other_than_stages border counter is not = by-test (same_counter border counter) refl
  where
    by-test : (t : Bool) → same_counter border counter ≡ t → t ≡ false
    by-test false same = refl
    by-test true same = absurd (true≢false (sym is ∙ func_same border counter same ∙ not))

number_is : (n : ℕ) → is_border (number n) ≡ true
number_is n = eq-eqb borders borders refl

pub numbers_stay : (counter : Counter) (v : ℕ) (values : Values) → is_border counter ≡ false → AreNumbers values → AreNumbers (with counter v values)
numbers_stay counter v values not are = record {
  each = λ n. ap (λ b. cond b v (values (number n))) (other_than_stages (number n) counter (number_is n) not) ∙ are.each n;
}

pub iteration_is : (level : ℕ) → is_border (iteration level) ≡ true
iteration_is level = eq-eqb borders borders refl

and_false : (b : Bool) → b && false ≡ false
and_false true = refl
and_false false = refl

pub numbers_stay_in : (level v : ℕ) (values : Values) → AreNumbers values → AreNumbers (with (iteration level) v values)
numbers_stay_in level v values are = record {
  each = λ n. ap (λ b. cond b v (values (number n))) (and_false (borders == borders)) ∙ are.each n;
}

pub stages_with : (counter : Counter) (v : ℕ) (values : Values) → is_border counter ≡ false
    → of_stages (with counter v values) ≡ with counter v (of_stages values)
stages_with counter v values not = fun_ext (λ (at : Counter). by-tests at (is_border at) refl (same_counter at counter) refl)
  where
    by-tests : (at : Counter) (a : Bool) → is_border at ≡ a → (b : Bool) → same_counter at counter ≡ b
        → cond a 0 (cond b v (values at)) ≡ cond b v (cond a 0 (values at))
    by-tests at true is true same = absurd (true≢false (sym is ∙ func_same at counter same ∙ not))
    by-tests at true is false same = refl
    by-tests at false is true same = refl
    by-tests at false is false same = refl

pub stages_hide : (counter : Counter) (v : ℕ) (values : Values) → is_border counter ≡ true → of_stages (with counter v values) ≡ of_stages values
stages_hide counter v values is = fun_ext (λ (at : Counter). by-tests at (is_border at) refl (same_counter at counter) refl)
  where
    by-tests : (at : Counter) (a : Bool) → is_border at ≡ a → (b : Bool) → same_counter at counter ≡ b
        → cond a 0 (cond b v (values at)) ≡ cond a 0 (values at)
    by-tests at true border b same = refl
    by-tests at false border true same = absurd (true≢false (sym is ∙ sym (func_same at counter same) ∙ border))
    by-tests at false border false same = refl

-- ---- values of split loops

pub whole_blind : (whole : Whole) (values : Values) → is_border whole.outer ≡ false → is_border whole.inner ≡ false
    → whole_value whole (of_stages values) ≡ whole_value whole values
whole_blind whole values outer inner =
    ap (λ b. word.add (at_most whole.last (word.multiply (cond b 0 (values whole.outer)) whole.factor)) (cond (is_border whole.inner) 0 (values whole.inner)))
    outer
    ∙ ap (λ b. word.add (at_most whole.last (word.multiply (values whole.outer) whole.factor)) (cond b 0 (values whole.inner))) inner

-- that of a loop in parts, where this many iterations begin at a number
abbrev pub from_on : ℕ → ℕ → Whole
from_on level from = record { outer = iteration level; inner = number from; factor = 1; last = None }

pub from_on_is : (level from i : ℕ) (values : Values) → AreNumbers values → from + i < 2 ^ 32
    → whole_value (from_on level from) (with (iteration level) i values) ≡ from + i
unfolding word.add word.multiply
from_on_is level from i values are small =
    let own : with (iteration level) i values (iteration level) ≡ i = ap (λ b. cond b i (values (iteration level))) self in
    let other : with (iteration level) i values (number from) ≡ from = (numbers_stay_in level i values are).each from in
    ap (λ v. word.add (word.multiply v 1) (with (iteration level) i values (number from))) own ∙ ap (λ v. word.add (word.multiply i 1) v) other
    ∙ added i from small
  where
    self : same_counter (iteration level) (iteration level) ≡ true
    self = ap (λ b. b && (level == level)) (eq-eqb borders borders refl) ∙ eq-eqb level level refl

    added : (i from : ℕ) → from + i < 4294967296 → ((i * 1) % 4294967296 + from) % 4294967296 ≡ from + i
    added i from small = omega (arith, small)
