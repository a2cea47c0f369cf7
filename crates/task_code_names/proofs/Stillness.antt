-- Expressions that load nothing come to the same whatever sources hold.
use Rattle.std.proofs.Common.{◌≡◌, ℕ, ◌++◌, [], ap, ◌∙◌, sym, subst}
use Rattle.std.specs.Prelude.{◌==◌, if◌then◌else◌}
use Rattle.halide_pipeline.specs.declared.expressions.Operation.{Operation}
use Rattle.halide_pipeline.specs.Words as word
use Rattle.loop_ir.specs.declared.expressions.Expr.{Expr}
use Rattle.loop_ir.specs.declared.expressions.Expr.TheVariants as e
use Rattle.loop_ir.specs.declared.expressions.Linear.{Linear}
use Rattle.loop_ir.specs.Expressions.{value, loads}
use Rattle.task_code_values.proofs.Evaluating.{value_number, value_linear, value_binary, value_divide, value_remainder, value_select}
use Rattle.task_code_values.proofs.Evaluating.{loads_binary, loads_divide, loads_remainder, loads_select}
use Rattle.task_code_names.specs.Copies.{IsLoadFree}
use Rattle.task_code_names.proofs.Alike.{loads_number, loads_linear}

pub still-number : (expression : Expr) (n : ℕ) → expression ≡ e.Number n → IsLoadFree expression
still-number expression n is = subst IsLoadFree (sym is) (record {
  value_is = λ reads other values. value_number reads values n ∙ sym (value_number other values n);
  none = λ reads values. loads_number reads values n;
})

pub still-linear : (expression : Expr) (sum : Linear) → expression ≡ e.Linear sum → IsLoadFree expression
still-linear expression sum is = subst IsLoadFree (sym is) (record {
  value_is = λ reads other values. value_linear reads values sum ∙ sym (value_linear other values sum);
  none = λ reads values. loads_linear reads values sum;
})

pub still-binary : (expression : Expr) (o : Operation) (a b x y : Expr) → expression ≡ e.Binary o a b → x ≡ a → y ≡ b → IsLoadFree x → IsLoadFree y → IsLoadFree expression
still-binary expression o a b x y is ex ey one two =
    subst IsLoadFree (sym (is ∙ ap (λ z. e.Binary o z b) (sym ex) ∙ ap (e.Binary o x) (sym ey))) (record {
      value_is = λ reads other values. value_binary reads values o x y
          ∙ ap (λ z. word.applied o z (value reads values y)) (one.value_is reads other values)
          ∙ ap (word.applied o (value other values x)) (two.value_is reads other values) ∙ sym (value_binary other values o x y);
      none = λ reads values. loads_binary reads values o x y ∙ ap (λ z. z ++ loads reads values y) (one.none reads values) ∙ two.none reads values;
    })

pub still-divide : (expression a x : Expr) (c : ℕ) → expression ≡ e.Divide a c → x ≡ a → IsLoadFree x
    → IsLoadFree expression
still-divide expression a x c is ex one = subst IsLoadFree (sym (is ∙ ap (λ z. e.Divide z c) (sym ex))) (record {
  value_is = λ reads other values. value_divide reads values x c ∙ ap (λ z. word.divide z c) (one.value_is reads other values)
      ∙ sym (value_divide other values x c);
  none = λ reads values. loads_divide reads values x c ∙ one.none reads values;
})

pub still-remainder : (expression a x : Expr) (c : ℕ) → expression ≡ e.Remainder a c → x ≡ a → IsLoadFree x
    → IsLoadFree expression
still-remainder expression a x c is ex one = subst IsLoadFree (sym (is ∙ ap (λ z. e.Remainder z c) (sym ex))) (record {
  value_is = λ reads other values. value_remainder reads values x c ∙ ap (λ z. word.remainder z c) (one.value_is reads other values)
      ∙ sym (value_remainder other values x c);
  none = λ reads values. loads_remainder reads values x c ∙ one.none reads values;
})

pub still-select : (expression c a b x y z : Expr) → expression ≡ e.Select c a b → x ≡ c → y ≡ a → z ≡ b → IsLoadFree x → IsLoadFree y → IsLoadFree z → IsLoadFree expression
still-select expression c a b x y z is ex ey ez one two three =
    subst IsLoadFree (sym (is ∙ ap (λ t. e.Select t a b) (sym ex) ∙ ap (λ t. e.Select x t b) (sym ey) ∙ ap (e.Select x y) (sym ez))) (record {
      value_is = λ reads other values. value_select reads values x y z
          ∙ ap (λ t. if t == 0 then value reads values z else value reads values y) (one.value_is reads other values)
          ∙ ap (λ t. if value other values x == 0 then value reads values z else t) (two.value_is reads other values)
          ∙ ap (λ t. if value other values x == 0 then t else value other values y) (three.value_is reads other values)
          ∙ sym (value_select other values x y z);
      none = λ reads values. loads_select reads values x y z
          ∙ ap (λ t. t ++ (loads reads values y ++ loads reads values z)) (one.none reads values)
          ∙ ap (λ t. t ++ loads reads values z) (two.none reads values) ∙ three.none reads values;
    })
