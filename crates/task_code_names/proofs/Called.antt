-- A name in place of an expression comes to the same.
use Rattle.std.proofs.Common.{◌≡◌, ℕ, ◌+◌, ◌*◌, ◌%◌, ◌^◌, ◌<◌, List, [], ◌∷◌, ap, ◌∙◌, sym, subst, arith}
use Rattle.std.specs.Prelude.{Option, Some, IfSome}
use Rattle.loop_ir.specs.declared.expressions.Counter.{Counter}
use Rattle.loop_ir.specs.declared.expressions.Expr.{Expr}
use Rattle.loop_ir.specs.declared.expressions.Expr.TheVariants as e
use Rattle.loop_ir.specs.declared.expressions.Linear.{Linear}
use Rattle.loop_ir.specs.Counters.{Values}
use Rattle.loop_ir.specs.Expressions.{linear_value, value, loads}
use Rattle.task_code_registers.specs.declared.scopes.AffineForm.{AffineForm}
use Rattle.task_code_loops.specs.Beginning.{variable}
use Rattle.task_code_values.proofs.Evaluating.{value_linear}
use Rattle.task_code_names.specs.declared.names.Named.{Named}
use Rattle.task_code_names.specs.Names.{IsNameOf, IsNamedExpr}
use Rattle.task_code_names.proofs.Alike.{loads_linear}

variable-is : (values : Values) (counter : Counter) → values counter < 2 ^ 32 → linear_value values (variable counter).sum ≡ values counter
unfolding linear_value
variable-is values counter small =
    let n = values counter in
    let g : (0 + (n * 1 + 0)) % 2 ^ 32 ≡ n = omega (arith, small) in
    g

pub name-is : (names : List Named) (expression : Expr) (counter : Counter) (loop_counter : Option Counter) (form : AffineForm) → loop_counter ≡ Some counter → form ≡ variable counter
    → IfSome loop_counter (IsNameOf names expression) → IsNamedExpr names expression (e.Linear form.sum)
name-is names expression counter loop_counter form is ef all =
    let named : IsNameOf names expression counter = subst (λ o. IfSome o (IsNameOf names expression)) is all in
    record {
      value_is = λ reads values are.
          let k = named values are in
          value_linear reads values form.sum ∙ ap (λ (x : AffineForm). linear_value values x.sum) ef ∙ variable-is values counter k.small ∙ sym (k.value_is reads);
      loads_are = λ reads values are. loads_linear reads values form.sum ∙ sym ((named values are).none reads);
    }
