-- Expressions without names come to the same whatever values those have.
use Rattle.std.proofs.Common.{◌≡◌, ℕ, ◌+◌, ◌*◌, ◌%◌, ◌^◌, List, [], ◌∷◌, ◌++◌, Bool, true, false, refl, ap, ◌∙◌, sym, subst}
use Rattle.std.specs.Prelude.{◌==◌, if◌then◌else◌}
use Rattle.std.proofs.lemmas.Bool.{true≢false}
use Rattle.halide_pipeline.specs.declared.expressions.Operation.{Operation}
use Rattle.halide_pipeline.specs.declared.expressions.Source.{Source}
use Rattle.halide_pipeline.specs.Points.{Point}
use Rattle.halide_pipeline.specs.Words as word
use Rattle.loop_ir.specs.declared.expressions.Term.{Term}
use Rattle.loop_ir.specs.declared.expressions.Expr.{Expr}
use Rattle.loop_ir.specs.declared.expressions.Expr.TheVariants as e
use Rattle.loop_ir.specs.declared.expressions.Linear.{Linear}
use Rattle.loop_ir.specs.Counters.{Values, with, same_counter}
use Rattle.loop_ir.specs.declared.expressions.Counter.{Counter}
use Rattle.loop_ir.specs.Expressions.{value, loads, linear_value, sum_of}
use Rattle.task_code_vector_loops.specs.Naming.{AreNamed, is_name}
use Rattle.task_code_registers.proofs.Variables.{same_counter-true}
use Rattle.task_code_values.proofs.Evaluating.{value_number, value_linear, value_binary, value_divide, value_remainder, value_select, value_load}
use Rattle.task_code_values.proofs.Evaluating.{loads_binary, loads_divide, loads_remainder, loads_select, loads_load}
use Rattle.task_code_statements.specs.Naming.{has_name}
use Rattle.task_code_statements.specs.Plain.{IsPlain}
use Rattle.task_code_names.proofs.Alike.{loads_number, loads_linear}

-- ---- values of names

pub named-with : (values named : Values) (counter : Counter) (v : ℕ) → AreNamed values named → AreNamed (with counter v values) (with counter v named)
named-with values named counter v are other plain = by-test (same_counter other counter)
  where
    by-test : (t : Bool) → (if t then v else named other) ≡ (if t then v else values other)
    by-test true = refl
    by-test false = are other plain

-- one name has another value
pub name-with : (values named : Values) (counter : Counter) (v : ℕ) → is_name counter ≡ true → AreNamed values named
    → AreNamed values (with counter v named)
name-with values named counter v is are other plain = by-test (same_counter other counter) refl
  where
    by-test : (t : Bool) → same_counter other counter ≡ t → (if t then v else named other) ≡ values other
    by-test true same = absurd (true≢false (sym (ap is_name (same_counter-true other counter same) ∙ is) ∙ plain))
    by-test false same = are other plain

pub named-same : (values : Values) → AreNamed values values
named-same values counter plain = refl

-- ---- sums

sum-plain : (values named : Values) → AreNamed values named → (terms : List Term) → has_name terms ≡ false → sum_of named terms ≡ sum_of values terms
sum-plain values named are [] none = refl
sum-plain values named are (first ∷ others) none = by-test (is_name first.counter) refl none (λ h. sum-plain values named are others h)
  where
    by-test : (t : Bool) → is_name first.counter ≡ t → (if t then true else has_name others) ≡ false
        → (has_name others ≡ false → sum_of named others ≡ sum_of values others)
        → named first.counter * first.stride + sum_of named others ≡ values first.counter * first.stride + sum_of values others
    by-test true is h rest = absurd (true≢false h)
    by-test false is h rest =
        ap (λ n. n * first.stride + sum_of named others) (are first.counter is) ∙ ap (λ n. values first.counter * first.stride + n) (rest h)

linear-plain : (values named : Values) → AreNamed values named → (new_sum : Linear) → has_name new_sum.terms ≡ false
    → linear_value named new_sum ≡ linear_value values new_sum
unfolding linear_value
linear-plain values named are new_sum none = ap (λ n. (new_sum.number + n) % 2 ^ 32)
    (sum-plain values named are new_sum.terms none)

-- ---- expressions

abbrev point : Source → ℕ → ℕ → Point
point source x y = record { source = source; x = x; y = y }

plain-as : (expression x : Expr) → expression ≡ x → IsPlain x → IsPlain expression
plain-as expression x is same = subst IsPlain (sym is) same

pub plain-number : (expression : Expr) (n : ℕ) → expression ≡ e.Number n → IsPlain expression
plain-number expression n is = plain-as expression (e.Number n) is (record {
  value_is = λ reads values named are. value_number reads named n ∙ sym (value_number reads values n);
  loads_are = λ reads values named are. loads_number reads named n ∙ sym (loads_number reads values n);
})

pub plain-linear : (expression : Expr) (sum : Linear) → expression ≡ e.Linear sum → has_name sum.terms ≡ false
    → IsPlain expression
plain-linear expression sum is none = plain-as expression (e.Linear sum) is (record {
  value_is = λ reads values named are. value_linear reads named sum ∙ linear-plain values named are sum none ∙ sym (value_linear reads values sum);
  loads_are = λ reads values named are. loads_linear reads named sum ∙ sym (loads_linear reads values sum);
})

pub plain-binary : (expression : Expr) (o : Operation) (a b x y : Expr) → expression ≡ e.Binary o a b → x ≡ a → y ≡ b → IsPlain x → IsPlain y
    → IsPlain expression
plain-binary expression o a b x y is ex ey one two = plain-as expression (e.Binary o x y) (is ∙ ap (λ z. e.Binary o z b) (sym ex) ∙ ap (e.Binary o x) (sym ey)) (record {
  value_is = λ reads values named are. value_binary reads named o x y
      ∙ ap (λ z. word.applied o z (value reads named y)) (one.value_is reads values named are)
      ∙ ap (word.applied o (value reads values x)) (two.value_is reads values named are) ∙ sym (value_binary reads values o x y);
  loads_are = λ reads values named are. loads_binary reads named o x y
      ∙ ap (λ z. z ++ loads reads named y) (one.loads_are reads values named are)
      ∙ ap (λ z. loads reads values x ++ z) (two.loads_are reads values named are) ∙ sym (loads_binary reads values o x y);
})

pub plain-divide : (expression a x : Expr) (c : ℕ) → expression ≡ e.Divide a c → x ≡ a → IsPlain x → IsPlain expression
plain-divide expression a x c is ex one = plain-as expression (e.Divide x c) (is ∙ ap (λ z. e.Divide z c) (sym ex))
    (record {
      value_is = λ reads values named are. value_divide reads named x c ∙ ap (λ z. word.divide z c) (one.value_is reads values named are)
          ∙ sym (value_divide reads values x c);
      loads_are = λ reads values named are. loads_divide reads named x c ∙ one.loads_are reads values named are ∙ sym (loads_divide reads values x c);
    })

pub plain-remainder : (expression a x : Expr) (c : ℕ) → expression ≡ e.Remainder a c → x ≡ a → IsPlain x
    → IsPlain expression
plain-remainder expression a x c is ex one = plain-as expression (e.Remainder x c)
    (is ∙ ap (λ z. e.Remainder z c) (sym ex)) (record {
      value_is = λ reads values named are. value_remainder reads named x c ∙ ap (λ z. word.remainder z c) (one.value_is reads values named are)
          ∙ sym (value_remainder reads values x c);
      loads_are = λ reads values named are. loads_remainder reads named x c ∙ one.loads_are reads values named are ∙ sym (loads_remainder reads values x c);
    })

pub plain-select : (expression c a b x y z : Expr) → expression ≡ e.Select c a b → x ≡ c → y ≡ a → z ≡ b → IsPlain x → IsPlain y → IsPlain z
    → IsPlain expression
plain-select expression c a b x y z is ex ey ez one two three =
    plain-as expression (e.Select x y z) (is ∙ ap (λ t. e.Select t a b) (sym ex) ∙ ap (λ t. e.Select x t b) (sym ey) ∙ ap (e.Select x y) (sym ez)) (record {
      value_is = λ reads values named are. value_select reads named x y z
          ∙ ap (λ t. if t == 0 then value reads named z else value reads named y) (one.value_is reads values named are)
          ∙ ap (λ t. if value reads values x == 0 then value reads named z else t) (two.value_is reads values named are)
          ∙ ap (λ t. if value reads values x == 0 then t else value reads values y) (three.value_is reads values named are)
          ∙ sym (value_select reads values x y z);
      loads_are = λ reads values named are. loads_select reads named x y z
          ∙ ap (λ t. t ++ (loads reads named y ++ loads reads named z)) (one.loads_are reads values named are)
          ∙ ap (λ t. loads reads values x ++ (t ++ loads reads named z)) (two.loads_are reads values named are)
          ∙ ap (λ t. loads reads values x ++ (loads reads values y ++ t)) (three.loads_are reads values named are)
          ∙ sym (loads_select reads values x y z);
    })

pub plain-load : (expression : Expr) (source : Source) (a b x y : Expr) → expression ≡ e.Load source a b → x ≡ a → y ≡ b → IsPlain x → IsPlain y
    → IsPlain expression
plain-load expression source a b x y is ex ey one two =
    plain-as expression (e.Load source x y) (is ∙ ap (λ z. e.Load source z b) (sym ex) ∙ ap (e.Load source x) (sym ey)) (record {
      value_is = λ reads values named are. value_load reads named source x y
          ∙ ap (λ z. reads source z (value reads named y)) (one.value_is reads values named are)
          ∙ ap (reads source (value reads values x)) (two.value_is reads values named are) ∙ sym (value_load reads values source x y);
      loads_are = λ reads values named are. loads_load reads named source x y
          ∙ ap (λ z. (z ++ loads reads named y)
          ++ (point source (value reads named x) (value reads named y) ∷ [])) (one.loads_are reads values named are)
          ∙ ap (λ z. (loads reads values x ++ z)
          ++ (point source (value reads named x) (value reads named y) ∷ [])) (two.loads_are reads values named are)
          ∙ ap (λ z. (loads reads values x ++ loads reads values y) ++ (point source z (value reads named y) ∷ [])) (one.value_is
          reads values named are)
          ∙ ap (λ z. (loads reads values x ++ loads reads values y) ++ (point source (value reads values x) z ∷ [])) (two.value_is reads values named are)
          ∙ sym (loads_load reads values source x y);
    })
