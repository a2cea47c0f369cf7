-- Sums, expressions and stores by other loop variables than the known ones.
use Rattle.std.proofs.Common.{◌≡◌, ℕ, ◌+◌, ◌*◌, ◌%◌, ◌^◌, List, ◌++◌, ap, ◌∙◌, sym, subst, arith}
use Rattle.std.specs.Prelude.{Option, Some, None, IfSome}
use Rattle.halide_pipeline.specs.declared.expressions.Operation.{Operation}
use Rattle.halide_pipeline.specs.Words as word
use Rattle.loop_ir.specs.declared.expressions.Expr.{Expr}
use Rattle.loop_ir.specs.declared.expressions.Expr.TheVariants as e
use Rattle.loop_ir.specs.declared.expressions.Linear.{Linear}
use Rattle.loop_ir.specs.Counters.{Values}
use Rattle.loop_ir.specs.Expressions.{linear_value, value, loads}
use Rattle.task_code_registers.specs.declared.scopes.AffineForm.{AffineForm}
use Rattle.task_code_registers.specs.Scopes.{form_value}
use Rattle.task_code_registers.proofs.Knowing.{linear-small}
use Rattle.task_code_loops.specs.declared.known.KnownSum.{KnownSum}
use Rattle.task_code_loops.specs.Known.{AreKnown}
use Rattle.task_code_loops.specs.Sums.{IsCombined}
use Rattle.task_code_values.proofs.Evaluating.{value_number, value_linear, value_binary}
use Rattle.task_code_values.proofs.Evaluating.{loads_binary}
use Rattle.task_code_names.proofs.Alike.{alike-binary, loads_number, loads_linear}
use Rattle.task_code_statements.specs.Rewriting.{IsSameExpr, IsBinary, IsLeafSum}

-- ---- sums

-- a form of no hart is its sum
pub form-sum : (hart : ℕ) (values : Values) (new_sum : Linear) → form_value hart values (record { sum = new_sum; per_hart = 0 }) ≡ linear_value values new_sum
unfolding form_value
form-sum hart values new_sum =
    let l = linear-small values new_sum in
    let g : (linear_value values new_sum + hart * 0) % 2 ^ 32 ≡ linear_value values new_sum = omega (arith, l) in
    g

pub first-form : (values : Values) (form : AffineForm) → form_value 0 values form ≡ linear_value values form.sum
unfolding form_value
first-form values form =
    let l = linear-small values form.sum in
    let g : (linear_value values form.sum + 0 * form.per_hart) % 2 ^ 32 ≡ linear_value values form.sum = omega (arith, l) in
    g

-- ---- operations on sums

pub leaf-number : (expression : Expr) (n : ℕ) (sum : Linear) → expression ≡ e.Number n → ((values : Values) → linear_value values sum ≡ n) → IsLeafSum expression sum
leaf-number expression n sum is new_values = subst (λ x. IsLeafSum x sum) (sym is) (record {
  value_is = λ reads values. new_values values ∙ sym (value_number reads values n);
  none = λ reads values. loads_number reads values n;
})

pub leaf-linear : (expression : Expr) (x sum : Linear) → expression ≡ e.Linear x → sum ≡ x → IsLeafSum expression sum
leaf-linear expression x sum is made = subst (λ y. IsLeafSum y sum) (sym is) (record {
  value_is = λ reads values. ap (linear_value values) made ∙ sym (value_linear reads values x);
  none = λ reads values. loads_linear reads values x;
})

binary-plain : (o : Operation) (a b : Expr) → IsBinary o a b (e.Binary o a b)
binary-plain o a b = record { value_is = λ reads values. value_binary reads values o a b; loads_are = λ reads values. loads_binary reads values o a b }

pub binary-sum : (o : Operation) (a b : Expr) (x y sum : Linear) → IsLeafSum a x → IsLeafSum b y → IsCombined o x y sum → IsBinary o a b (e.Linear sum)
binary-sum o a b x y sum one two is = record {
  value_is = λ reads values. value_linear reads values sum ∙ is values ∙ ap (λ n. word.applied o n (linear_value values y)) (one.value_is reads values)
      ∙ ap (word.applied o (value reads values a)) (two.value_is reads values);
  loads_are = λ reads values. loads_linear reads values sum ∙ sym (ap (λ l. l ++ loads reads values b) (one.none reads values) ∙ two.none reads values);
}

pub same-made : (known : List KnownSum) (expression : Expr) (o : Operation) (a b x y p q new_expression : Expr) → expression ≡ e.Binary o a b → x ≡ a → y ≡ b
    → IsSameExpr known x p → IsSameExpr known y q → IsBinary o p q new_expression
    → IsSameExpr known expression new_expression
same-made known expression o a b x y p q new_expression is ex ey one two m =
    let whole = alike-binary (AreKnown known) expression o a b x y p q is ex ey one two in
    record {
      value_is = λ reads values are. m.value_is reads values ∙ sym (value_binary reads values o p q) ∙ whole.value_is reads values are;
      loads_are = λ reads values are. m.loads_are reads values ∙ sym (loads_binary reads values o p q) ∙ whole.loads_are reads values are;
    }

-- as the emitter calls them
pub leaf-found : (expression : Expr) (x : Linear) (new_sum : Option Linear) → new_sum ≡ Some x → IfSome new_sum (IsLeafSum expression) → IsLeafSum expression x
leaf-found expression x new_sum e is = subst (λ o. IfSome o (IsLeafSum expression)) e is

pub sum-found : (o : Operation) (b : Expr) (x y : Linear) (new_sum : Option Linear) → IsLeafSum b y → IfSome new_sum (IsCombined o x y)
    → IfSome new_sum (λ sum. (a : Expr) → IsLeafSum a x → IsBinary o a b (e.Linear sum))
sum-found o b x y None two is = tt
sum-found o b x y (Some sum) two is = λ a one. binary-sum o a b x y sum one two is

pub sums-found : (o : Operation) (a b : Expr) (x : Linear) (new_sum : Option Linear) → IsLeafSum a x
    → IfSome new_sum (λ sum. (p : Expr) → IsLeafSum p x → IsBinary o p b (e.Linear sum)) → IfSome new_sum (λ sum. IsBinary o a b (e.Linear sum))
sums-found o a b x None one is = tt
sums-found o a b x (Some sum) one is = is a one

pub binary-boxed : (o : Operation) (a b x y : Expr) → x ≡ a → y ≡ b → IsBinary o a b (e.Binary o x y)
binary-boxed o a b x y ex ey = subst (λ t. IsBinary o a b t) (sym (ap (λ t. e.Binary o t y) ex ∙ ap (e.Binary o a) ey)) (binary-plain o a b)
