-- Expressions without a loop variable come to the same wherever it is.
use Rattle.std.proofs.Common.{◌≡◌, ℕ, [], ◌∷◌, ◌++◌, false, ap, ◌∙◌, sym, subst}
use Rattle.std.specs.Prelude.{◌==◌, if◌then◌else◌}
use Rattle.halide_pipeline.specs.declared.expressions.Operation.{Operation}
use Rattle.halide_pipeline.specs.declared.expressions.Source.{Source}
use Rattle.halide_pipeline.specs.Points.{Point}
use Rattle.halide_pipeline.specs.Words as word
use Rattle.loop_ir.specs.declared.expressions.Counter.{Counter}
use Rattle.loop_ir.specs.declared.expressions.Expr.{Expr}
use Rattle.loop_ir.specs.declared.expressions.Expr.TheVariants as e
use Rattle.loop_ir.specs.declared.expressions.Linear.{Linear}
use Rattle.loop_ir.specs.Counters.{with}
use Rattle.loop_ir.specs.Expressions.{value, loads}
use Rattle.task_code_registers.specs.Strides.{has_counter}
use Rattle.task_code_registers.proofs.Striding.{linear-loop_invariant}
use Rattle.task_code_values.proofs.Evaluating.{value_number, value_linear, value_binary, value_divide, value_remainder, value_select, value_load}
use Rattle.task_code_values.proofs.Evaluating.{loads_binary, loads_divide, loads_remainder, loads_select, loads_load}
use Rattle.task_code_statements.specs.Lacking.{Lacks}
use Rattle.task_code_names.proofs.Alike.{loads_number, loads_linear}

abbrev point : Source → ℕ → ℕ → Point
point source x y = record { source = source; x = x; y = y }

module _ (counter : Counter) where
  lacks-as : (expression x : Expr) → expression ≡ x → Lacks counter x → Lacks counter expression
  lacks-as expression x is same = subst (Lacks counter) (sym is) same

  pub lacks-number : (expression : Expr) (n : ℕ) → expression ≡ e.Number n → Lacks counter expression
  lacks-number expression n is = lacks-as expression (e.Number n) is (record {
    value_is = λ reads values v. value_number reads (with counter v values) n ∙ sym (value_number reads values n);
    loads_are = λ reads values v. loads_number reads (with counter v values) n ∙ sym (loads_number reads values n);
  })

  pub lacks-linear : (expression : Expr) (sum : Linear) → expression ≡ e.Linear sum → has_counter counter sum.terms ≡ false → Lacks counter expression
  lacks-linear expression sum is none = lacks-as expression (e.Linear sum) is (record {
    value_is = λ reads values v. value_linear reads (with counter v values) sum ∙ linear-loop_invariant counter v values sum none ∙ sym (value_linear reads values sum);
    loads_are = λ reads values v. loads_linear reads (with counter v values) sum ∙ sym (loads_linear reads values sum);
  })

  pub lacks-binary : (expression : Expr) (o : Operation) (a b x y : Expr) → expression ≡ e.Binary o a b → x ≡ a → y ≡ b → Lacks counter x → Lacks counter y
      → Lacks counter expression
  lacks-binary expression o a b x y is ex ey one two = lacks-as expression (e.Binary o x y) (is ∙ ap (λ z. e.Binary o z b) (sym ex) ∙ ap (e.Binary o x) (sym ey)) (record {
    value_is = λ reads values v. value_binary reads (with counter v values) o x y
        ∙ ap (λ z. word.applied o z (value reads (with counter v values) y)) (one.value_is reads values v)
        ∙ ap (word.applied o (value reads values x)) (two.value_is reads values v) ∙ sym (value_binary reads values o x y);
    loads_are = λ reads values v. loads_binary reads (with counter v values) o x y
        ∙ ap (λ z. z ++ loads reads (with counter v values) y) (one.loads_are reads values v)
        ∙ ap (λ z. loads reads values x ++ z) (two.loads_are reads values v) ∙ sym (loads_binary reads values o x y);
  })

  pub lacks-divide : (expression a x : Expr) (c : ℕ) → expression ≡ e.Divide a c → x ≡ a → Lacks counter x
      → Lacks counter expression
  lacks-divide expression a x c is ex one = lacks-as expression (e.Divide x c) (is ∙ ap (λ z. e.Divide z c) (sym ex))
      (record {
        value_is = λ reads values v. value_divide reads (with counter v values) x c ∙ ap (λ z. word.divide z c) (one.value_is reads values v)
            ∙ sym (value_divide reads values x c);
        loads_are = λ reads values v. loads_divide reads (with counter v values) x c ∙ one.loads_are reads values v ∙ sym (loads_divide reads values x c);
      })

  pub lacks-remainder : (expression a x : Expr) (c : ℕ) → expression ≡ e.Remainder a c → x ≡ a → Lacks counter x
      → Lacks counter expression
  lacks-remainder expression a x c is ex one = lacks-as expression (e.Remainder x c) (is ∙ ap (λ z. e.Remainder z c) (sym ex)) (record {
    value_is = λ reads values v. value_remainder reads (with counter v values) x c ∙ ap (λ z. word.remainder z c) (one.value_is reads values v)
        ∙ sym (value_remainder reads values x c);
    loads_are = λ reads values v. loads_remainder reads (with counter v values) x c ∙ one.loads_are reads values v ∙ sym (loads_remainder reads values x c);
  })

  pub lacks-select : (expression c a b x y z : Expr) → expression ≡ e.Select c a b → x ≡ c → y ≡ a → z ≡ b → Lacks counter x → Lacks counter y → Lacks counter z
      → Lacks counter expression
  lacks-select expression c a b x y z is ex ey ez one two three =
      lacks-as expression (e.Select x y z) (is ∙ ap (λ t. e.Select t a b) (sym ex) ∙ ap (λ t. e.Select x t b) (sym ey) ∙ ap (e.Select x y) (sym ez)) (record {
        value_is = λ reads values v. value_select reads (with counter v values) x y z
            ∙ ap (λ t. if t == 0 then value reads (with counter v values) z else value reads (with counter v values) y) (one.value_is reads values v)
            ∙ ap (λ t. if value reads values x == 0 then value reads (with counter v values) z else t) (two.value_is reads values v)
            ∙ ap (λ t. if value reads values x == 0 then t else value reads values y) (three.value_is reads values v)
            ∙ sym (value_select reads values x y z);
        loads_are = λ reads values v. loads_select reads (with counter v values) x y z
            ∙ ap (λ t. t ++ (loads reads (with counter v values) y ++ loads reads (with counter v values) z)) (one.loads_are reads values v)
            ∙ ap (λ t. loads reads values x ++ (t ++ loads reads (with counter v values) z)) (two.loads_are reads values v)
            ∙ ap (λ t. loads reads values x ++ (loads reads values y ++ t)) (three.loads_are reads values v)
            ∙ sym (loads_select reads values x y z);
      })

  pub lacks-load : (expression : Expr) (source : Source) (a b x y : Expr) → expression ≡ e.Load source a b → x ≡ a → y ≡ b → Lacks counter x → Lacks counter y
      → Lacks counter expression
  lacks-load expression source a b x y is ex ey one two =
      lacks-as expression (e.Load source x y) (is ∙ ap (λ z. e.Load source z b) (sym ex) ∙ ap (e.Load source x) (sym ey)) (record {
        value_is = λ reads values v. value_load reads (with counter v values) source x y
            ∙ ap (λ z. reads source z (value reads (with counter v values) y)) (one.value_is reads values v)
            ∙ ap (reads source (value reads values x)) (two.value_is reads values v) ∙ sym (value_load reads values source x y);
        loads_are = λ reads values v. loads_load reads (with counter v values) source x y
            ∙ ap (λ z. (z ++ loads reads (with counter v values) y)
            ++ (point source (value reads (with counter v values) x) (value reads (with counter v values) y) ∷ [])) (one.loads_are reads values v)
            ∙ ap (λ z. (loads reads values x ++ z)
            ++ (point source (value reads (with counter v values) x) (value reads (with counter v values) y) ∷ [])) (two.loads_are reads values v)
            ∙ ap (λ z. (loads reads values x ++ loads reads values y) ++ (point source z (value reads (with counter v values) y) ∷ [])) (one.value_is
            reads values v)
            ∙ ap (λ z. (loads reads values x ++ loads reads values y) ++ (point source (value reads values x) z ∷ [])) (two.value_is reads values v)
            ∙ sym (loads_load reads values source x y);
      })
