-- The value of an expression depends on the variables that it uses alone.
use Rattle.std.proofs.Common.{◌≡◌, ℕ, Bool, true, false, cond, refl, sym, ap, subst, ◌∙◌}
use Rattle.std.specs.Prelude.{◌||◌, ◌==◌}
use Rattle.halide_pipeline.specs.declared.expressions.Expr.{Expr, ind-Expr, fold-roll-Expr, roll-Expr, map-Expr}
use Rattle.halide_pipeline.specs.declared.expressions.Expr.TheOpen.{Expr-F}
use Rattle.halide_pipeline.specs.declared.expressions.Expr.TheOpen as layer
use Rattle.halide_pipeline.specs.declared.expressions.Operation.{Operation}
use Rattle.halide_pipeline.specs.declared.expressions.Source.{Source}
use Rattle.halide_pipeline.specs.declared.expressions.Variable.{Variable}
use Rattle.halide_pipeline.specs.declared.expressions.Variable.TheVariants as variables
use Rattle.halide_pipeline.specs.Expressions.{uses, uses_at, same_variable}
use Rattle.halide_pipeline.specs.Words as word
use Rattle.halide_pipeline.specs.declared.environments.Environment.{Environment}
use Rattle.halide_pipeline.specs.Pixel.{Reads, value, value_at, variable}

or_first : (a b : Bool) → a ≡ true → (a || b) ≡ true
or_first true b e = refl
or_first false b e = absurd cc

or_second : (a b : Bool) → b ≡ true → (a || b) ≡ true
or_second true b e = refl
or_second false b e = e

same_variable-self : (v : Variable) → same_variable v v ≡ true
same_variable-self variables.FirstArgument = refl
same_variable-self variables.SecondArgument = refl
same_variable-self variables.FirstReduction = refl
same_variable-self variables.SecondReduction = refl

module _ (reads : Reads) (one other : Environment) where
  abbrev Agrees : Expr → Type 0
  Agrees e = ((v : Variable) → uses v e ≡ true → variable one v ≡ variable other v) → value reads one e ≡ value reads other e

  number_agrees : (n : ℕ) → Agrees (roll-Expr (layer.Number n))
  unfolding value
  number_agrees n used = fold-roll-Expr ℕ (value_at reads one) (layer.Number n) ∙ sym (fold-roll-Expr ℕ (value_at reads other) (layer.Number n))

  variable_agrees : (v : Variable) → Agrees (roll-Expr (layer.Variable v))
  unfolding value uses
  variable_agrees v used =
      fold-roll-Expr ℕ (value_at reads one) (layer.Variable v) ∙ used v (fold-roll-Expr Bool (uses_at v) (layer.Variable v) ∙ same_variable-self v)
      ∙ sym (fold-roll-Expr ℕ (value_at reads other) (layer.Variable v))

  binary_agrees : (operation : Operation) (a b : Expr) → Agrees a → Agrees b → Agrees (roll-Expr (layer.Binary operation a b))
  unfolding value uses
  binary_agrees operation a b ha hb used =
      let l = layer.Binary operation a b in
      let in_a : value reads one a ≡ value reads other a = ha (λ v e. used v (fold-roll-Expr Bool (uses_at v) l ∙ or_first (uses v a) (uses v b) e)) in
      let in_b : value reads one b ≡ value reads other b = hb (λ v e. used v (fold-roll-Expr Bool (uses_at v) l ∙ or_second (uses v a) (uses v b) e)) in
      fold-roll-Expr ℕ (value_at reads one) l
      ∙ ap (λ (n : ℕ). word.applied operation n (value reads one b)) in_a ∙ ap (λ (n : ℕ). word.applied operation (value reads other a) n) in_b
      ∙ sym (fold-roll-Expr ℕ (value_at reads other) l)

  divide_agrees : (a : Expr) (c : ℕ) → Agrees a → Agrees (roll-Expr (layer.Divide a c))
  unfolding value uses
  divide_agrees a c ha used =
      let l = layer.Divide a c in
      fold-roll-Expr ℕ (value_at reads one) l ∙ ap (λ (n : ℕ). word.divide n c) (ha (λ v e. used v (fold-roll-Expr Bool (uses_at v) l ∙ e)))
      ∙ sym (fold-roll-Expr ℕ (value_at reads other) l)

  remainder_agrees : (a : Expr) (c : ℕ) → Agrees a → Agrees (roll-Expr (layer.Remainder a c))
  unfolding value uses
  remainder_agrees a c ha used =
      let l = layer.Remainder a c in
      fold-roll-Expr ℕ (value_at reads one) l ∙ ap (λ (n : ℕ). word.remainder n c) (ha (λ v e. used v (fold-roll-Expr Bool (uses_at v) l ∙ e)))
      ∙ sym (fold-roll-Expr ℕ (value_at reads other) l)

  select_agrees : (c a b : Expr) → Agrees c → Agrees a → Agrees b → Agrees (roll-Expr (layer.Select c a b))
  unfolding value uses
  select_agrees c a b hc ha hb used =
      let l = layer.Select c a b in
      let in_c : value reads one c ≡ value reads other c = hc (λ v e. used v (fold-roll-Expr Bool (uses_at v) l
      ∙ or_first (uses v c || uses v a) (uses v b) (or_first (uses v c) (uses v a) e))) in
      let in_a : value reads one a ≡ value reads other a = ha (λ v e. used v (fold-roll-Expr Bool (uses_at v) l
      ∙ or_first (uses v c || uses v a) (uses v b) (or_second (uses v c) (uses v a) e))) in
      let in_b : value reads one b ≡ value reads other b = hb (λ v e. used v (fold-roll-Expr Bool (uses_at v) l
      ∙ or_second (uses v c || uses v a) (uses v b) e)) in
      fold-roll-Expr ℕ (value_at reads one) l
      ∙ ap (λ (n : ℕ). cond (n == 0) (value reads one b) (value reads one a)) in_c
      ∙ ap (λ (n : ℕ). cond (value reads other c == 0) n (value reads one a)) in_b
      ∙ ap (λ (n : ℕ). cond (value reads other c == 0) (value reads other b) n) in_a
      ∙ sym (fold-roll-Expr ℕ (value_at reads other) l)

  call1_agrees : (s : Source) (a : Expr) → Agrees a → Agrees (roll-Expr (layer.Call1 s a))
  unfolding value uses
  call1_agrees s a ha used =
      let l = layer.Call1 s a in
      fold-roll-Expr ℕ (value_at reads one) l ∙ ap (λ (n : ℕ). reads s n 0) (ha (λ v e. used v (fold-roll-Expr Bool (uses_at v) l ∙ e)))
      ∙ sym (fold-roll-Expr ℕ (value_at reads other) l)

  call2_agrees : (s : Source) (a b : Expr) → Agrees a → Agrees b → Agrees (roll-Expr (layer.Call2 s a b))
  unfolding value uses
  call2_agrees s a b ha hb used =
      let l = layer.Call2 s a b in
      let in_a : value reads one a ≡ value reads other a = ha (λ v e. used v (fold-roll-Expr Bool (uses_at v) l ∙ or_first (uses v a) (uses v b) e)) in
      let in_b : value reads one b ≡ value reads other b = hb (λ v e. used v (fold-roll-Expr Bool (uses_at v) l ∙ or_second (uses v a) (uses v b) e)) in
      fold-roll-Expr ℕ (value_at reads one) l
      ∙ ap (λ (n : ℕ). reads s n (value reads one b)) in_a ∙ ap (λ (n : ℕ). reads s (value reads other a) n) in_b
      ∙ sym (fold-roll-Expr ℕ (value_at reads other) l)

  by_layer : (X : Type 0) (expr : X → Expr) → ((part : X) → Agrees (expr part)) → (y : Expr-F X) → Agrees (roll-Expr (map-Expr X Expr expr y))
  by_layer X expr agrees (layer.Number n) = number_agrees n
  by_layer X expr agrees (layer.Variable v) = variable_agrees v
  by_layer X expr agrees (layer.Binary operation a b) = binary_agrees operation (expr a) (expr b) (agrees a) (agrees b)
  by_layer X expr agrees (layer.Divide a c) = divide_agrees (expr a) c (agrees a)
  by_layer X expr agrees (layer.Remainder a c) = remainder_agrees (expr a) c (agrees a)
  by_layer X expr agrees (layer.Select c a b) = select_agrees (expr c) (expr a) (expr b) (agrees c) (agrees a) (agrees b)
  by_layer X expr agrees (layer.Call1 s a) = call1_agrees s (expr a) (agrees a)
  by_layer X expr agrees (layer.Call2 s a b) = call2_agrees s (expr a) (expr b) (agrees a) (agrees b)

  pub value-agrees : (e : Expr) → Agrees e
  value-agrees = ind-Expr Agrees (λ x y is. subst (λ (l : Expr-F Expr). Agrees (roll-Expr l)) is (by_layer _ (λ e. e.0) (λ e. e.1) y))
