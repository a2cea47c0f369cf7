-- Expressions that have one value in all iterations.
use Rattle.std.proofs.Common.{◌≡◌, ℕ, ◌+◌, ◌*◌, ◌%◌, ◌^◌, List, ap, ◌∙◌, sym, subst, arith, Bool, true}
use Rattle.std.specs.Prelude.{◌==◌, if◌then◌else◌}
use Rattle.std.proofs.lemmas.Bool.{eqb-true}
use Rattle.halide_pipeline.specs.declared.expressions.Operation.{Operation}
use Rattle.halide_pipeline.specs.declared.expressions.Source.{Source}
use Rattle.halide_pipeline.specs.Words as word
use Rattle.loop_ir.specs.declared.expressions.Counter.{Counter}
use Rattle.loop_ir.specs.declared.expressions.Expr.{Expr}
use Rattle.loop_ir.specs.declared.expressions.Expr.TheVariants as e
use Rattle.loop_ir.specs.declared.expressions.Linear.{Linear}
use Rattle.loop_ir.specs.declared.expressions.Term.{Term}
use Rattle.loop_ir.specs.Counters.{with}
use Rattle.loop_ir.specs.Expressions.{value, sum_of}
use Rattle.task_code_registers.specs.Strides.{strides, others_of}
use Rattle.task_code_registers.proofs.Striding.{linear-with}
use Rattle.task_code_values.proofs.Evaluating.{value_number, value_linear, value_binary, value_divide, value_remainder, value_select, value_load}
use Rattle.task_code_lane_values.specs.inner.Parts.{IsLoopInvariant}

module _ (counter : Counter) where
  loop_invariant-as : (expression x : Expr) → expression ≡ x → IsLoopInvariant counter x
      → IsLoopInvariant counter expression
  loop_invariant-as expression x eo is = subst (IsLoopInvariant counter) (sym eo) is

  part-as : (a x : Expr) → x ≡ a → IsLoopInvariant counter x → IsLoopInvariant counter a
  part-as a x ex is = subst (IsLoopInvariant counter) ex is

  pub loop_invariant-number : (expression : Expr) (n : ℕ) → expression ≡ e.Number n → IsLoopInvariant counter expression
  loop_invariant-number expression n eo =
      loop_invariant-as expression (e.Number n) eo (λ reads values i. value_number reads (with counter i values) n ∙ sym (value_number reads (with counter 0 values) n))

  pub loop_invariant-linear : (expression : Expr) (sum : Linear) (terms : List Term) (stride : ℕ) (t : Bool) → expression ≡ e.Linear sum → terms ≡ sum.terms
      → stride ≡ strides counter terms % 2 ^ 32 → t ≡ (stride == 0) → t ≡ true → IsLoopInvariant counter expression
  loop_invariant-linear expression sum terms stride t eo et es test is =
      let z : stride ≡ 0 = eqb-true stride 0 (sym test ∙ is) in
      let e0 : 0 ≡ strides counter sum.terms % 2 ^ 32 = sym z ∙ es ∙ ap (λ ts. strides counter ts % 2 ^ 32) et in
      loop_invariant-as expression (e.Linear sum) eo
      (λ reads values i.
      let a = sum.number + sum_of values (others_of counter sum.terms) in
      let g : a + i * 0 ≡ a + 0 * 0 = omega arith in
      value_linear reads (with counter i values) sum ∙ linear-with counter i 0 values sum e0 ∙ ap (λ n. n % 2 ^ 32) g ∙ sym
      (linear-with counter 0 0 values sum e0)
      ∙ sym (value_linear reads (with counter 0 values) sum))

  pub loop_invariant-binary : (expression : Expr) (o : Operation) (a b x y : Expr) → expression ≡ e.Binary o a b → x ≡ a → y ≡ b → IsLoopInvariant counter x → IsLoopInvariant counter y
      → IsLoopInvariant counter expression
  loop_invariant-binary expression o a b x y eo ex ey sx sy =
      let ia = part-as a x ex sx in
      let ib = part-as b y ey sy in
      loop_invariant-as expression (e.Binary o a b) eo
      (λ reads values i.
      value_binary reads (with counter i values) o a b ∙ ap (λ n. word.applied o n (value reads (with counter i values) b)) (ia reads values i)
      ∙ ap (word.applied o (value reads (with counter 0 values) a)) (ib reads values i) ∙ sym (value_binary reads (with counter 0 values) o a b))

  pub loop_invariant-divide : (expression a x : Expr) (c : ℕ) → expression ≡ e.Divide a c → x ≡ a
      → IsLoopInvariant counter x → IsLoopInvariant counter expression
  loop_invariant-divide expression a x c eo ex sx =
      let ia = part-as a x ex sx in
      loop_invariant-as expression (e.Divide a c) eo
      (λ reads values i. value_divide reads (with counter i values) a c ∙ ap (λ n. word.divide n c) (ia reads values i) ∙ sym (value_divide reads
      (with counter 0 values) a c))

  pub loop_invariant-remainder : (expression a x : Expr) (c : ℕ) → expression ≡ e.Remainder a c → x ≡ a → IsLoopInvariant counter x → IsLoopInvariant counter expression
  loop_invariant-remainder expression a x c eo ex sx =
      let ia = part-as a x ex sx in
      loop_invariant-as expression (e.Remainder a c) eo
      (λ reads values i.
      value_remainder reads (with counter i values) a c ∙ ap (λ n. word.remainder n c) (ia reads values i) ∙ sym (value_remainder reads
      (with counter 0 values) a c))

  pub loop_invariant-select : (expression c a b z x y : Expr) → expression ≡ e.Select c a b → z ≡ c → x ≡ a → y ≡ b → IsLoopInvariant counter z → IsLoopInvariant counter x
      → IsLoopInvariant counter y → IsLoopInvariant counter expression
  loop_invariant-select expression c a b z x y eo ez ex ey sz sx sy =
      let ic = part-as c z ez sz in
      let ia = part-as a x ex sx in
      let ib = part-as b y ey sy in
      loop_invariant-as expression (e.Select c a b) eo
      (λ reads values i.
      let at = with counter i values in
      let first = with counter 0 values in
      value_select reads at c a b ∙ ap (λ n. if n == 0 then value reads at b else value reads at a) (ic reads values i)
      ∙ ap (λ n. if value reads first c == 0 then n else value reads at a) (ib reads values i)
      ∙ ap (λ n. if value reads first c == 0 then value reads first b else n) (ia reads values i) ∙ sym (value_select reads first c a b))

  pub loop_invariant-load : (expression : Expr) (source : Source) (a b x y : Expr) → expression ≡ e.Load source a b → x ≡ a → y ≡ b → IsLoopInvariant counter x → IsLoopInvariant counter y
      → IsLoopInvariant counter expression
  loop_invariant-load expression source a b x y eo ex ey sx sy =
      let ia = part-as a x ex sx in
      let ib = part-as b y ey sy in
      loop_invariant-as expression (e.Load source a b) eo
      (λ reads values i.
      value_load reads (with counter i values) source a b ∙ ap (λ n. reads source n (value reads (with counter i values) b)) (ia reads values i)
      ∙ ap (reads source (value reads (with counter 0 values) a)) (ib reads values i) ∙ sym (value_load reads (with counter 0 values) source a b))
