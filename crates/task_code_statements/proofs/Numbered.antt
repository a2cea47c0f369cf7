-- Where variables stand before a task whose loops may be in parts.
use Rattle.std.proofs.Common.{◌≡◌, ℕ, Bool, true, false, cond, refl, ap, sym, ◌∙◌}
use Rattle.std.specs.Prelude.{if◌then◌else◌, Option, Some, None}
use Rattle.std.proofs.lemmas.Bool.{eq-eqb, true≢false}
use mathlib.Core.Path.{fun_ext}
use Rattle.loop_ir.specs.declared.expressions.Counter.{Counter}
use Rattle.loop_ir.specs.Counters.{Values, no_values, same_counter, with}
use Rattle.loop_ir.specs.Running.{task_values}
use Rattle.task_code_borders.specs.Borders.{AreNumbers, borders, is_border, number, of_stages}
use Rattle.task_code_borders.proofs.Standing.{other_than_stages}
use Rattle.task_code_statements.specs.Drawing.{is_own}
use Rattle.task_code_statements.specs.Starts.{IsOfStages, number_in, numbered, starts}

pub numbers-are : (values : Values) → AreNumbers (numbered values)
numbers-are values = record {
  each = λ n. ap (λ b. cond b n (values (number n))) (eq-eqb borders borders refl);
}

none-there : (counter : Option Counter) (task : ℕ) (at : Counter) → is_border at ≡ true → IsOfStages counter → task_values counter task at ≡ 0
none-there None task at is of = refl
none-there (Some counter) task at is of = ap (λ t. if t then task else no_values at)
    (other_than_stages at counter is of)

pub stages-of-starts : (counter : Option Counter) (task : ℕ) → IsOfStages counter → of_stages (starts counter task) ≡ task_values counter task
stages-of-starts counter task of = fun_ext (λ (at : Counter). by-test at (is_border at) refl)
  where
    by-test : (at : Counter) (t : Bool) → is_border at ≡ t → cond t 0 (cond t (number_in at.id) (task_values counter task at)) ≡ task_values counter task at
    by-test at true is = sym (none-there counter task at is of)
    by-test at false is = refl

pub starts-with : (counter : Counter) (task : ℕ) → is_border counter ≡ false → with counter task (numbered no_values) ≡ starts (Some counter) task
starts-with counter task not = fun_ext (λ (at : Counter). by-tests at (is_border at) refl (same_counter at counter)
    refl)
  where
    by-tests : (at : Counter) (a : Bool) → is_border at ≡ a → (b : Bool) → same_counter at counter ≡ b
        → cond b task (cond a (number_in at.id) (no_values at)) ≡ cond a (number_in at.id) (cond b task (no_values at))
    by-tests at true is true same = absurd (true≢false (sym same ∙ other_than_stages at counter is not))
    by-tests at true is false same = refl
    by-tests at false is true same = refl
    by-tests at false is false same = refl

-- ---- variables that no loop has

stands-still : (loop_counter : Option Counter) (counter : Counter) (task : ℕ) → is_own loop_counter counter ≡ false → task_values loop_counter task counter ≡ 0
stands-still None counter task other = refl
stands-still (Some loop_counter) counter task other = ap (λ t. if t then task else no_values counter) other

pub starts-at-zero : (loop_counter : Option Counter) (counter : Counter) (task : ℕ) → is_own loop_counter counter ≡ false → is_border counter ≡ false
    → starts loop_counter task counter ≡ 0
starts-at-zero loop_counter counter task other not =
    ap (λ t. cond t (number_in counter.id) (task_values loop_counter task counter)) not ∙ stands-still loop_counter
    counter task other

pub starts-at-number : (loop_counter : Option Counter) (counter : Counter) (n task : ℕ) → counter ≡ number n → starts loop_counter task counter ≡ n
starts-at-number loop_counter counter n task is = let are = numbers-are (task_values loop_counter task) in ap (starts loop_counter task) is ∙ are.each n
