-- The value of an expression depends on the variables that it uses alone.
use Rattle.std.proofs.Common.{◌≡◌, ℕ, Bool, true, cond, sym, ap, subst, ◌∙◌}
use Rattle.std.specs.Prelude.{◌||◌, ◌==◌}
use Rattle.halide_pipeline.specs.declared.expressions.Expr.{Expr, ind-Expr, fold-roll-Expr, roll-Expr, map-Expr}
use Rattle.halide_pipeline.specs.declared.expressions.Expr.TheOpen.{Expr-F}
use Rattle.halide_pipeline.specs.declared.expressions.Expr.TheOpen as layer
use Rattle.halide_pipeline.specs.declared.expressions.Variable.{Variable}
use Rattle.halide_pipeline.specs.Expressions.{uses, uses_at}
use Rattle.halide_pipeline.specs.Words as word
use Rattle.halide_pipeline.specs.declared.environments.Environment.{Environment}
use Rattle.halide_pipeline.specs.Pixel.{Reads, value, value_at, variable}
use Rattle.schedule_loops.proofs.Ids.{same_variable-self}
use Rattle.bounds_laws.proofs.Callers.{or_left, or_right}

module _ (reads : Reads) (one other : Environment) where
  abbrev Used : Expr → Type 0
  Used e = (v : Variable) → uses v e ≡ true → variable one v ≡ variable other v

  abbrev pub Same : Expr → Type 0
  Same e = Used e → value reads one e ≡ value reads other e

  by_layer : (X : Type 0) (expr : X → Expr) → ((part : X) → Same (expr part)) → (y : Expr-F X) → Same (roll-Expr (map-Expr X Expr expr y))
  unfolding value uses
  by_layer X expr same (layer.Number n) used =
      let l = layer.Number n in
      fold-roll-Expr ℕ (value_at reads one) l ∙ sym (fold-roll-Expr ℕ (value_at reads other) l)
  by_layer X expr same (layer.Variable v) used =
      let l = layer.Variable v in
      fold-roll-Expr ℕ (value_at reads one) l ∙ used v (fold-roll-Expr Bool (uses_at v) l ∙ same_variable-self v)
      ∙ sym (fold-roll-Expr ℕ (value_at reads other) l)
  by_layer X expr same (layer.Binary operation a b) used =
      let l = layer.Binary operation (expr a) (expr b) in
      let in_a = same a (λ v e. used v (fold-roll-Expr Bool (uses_at v) l ∙ or_left (uses v (expr a)) (uses v (expr b)) e)) in
      let in_b = same b (λ v e. used v (fold-roll-Expr Bool (uses_at v) l ∙ or_right (uses v (expr a)) (uses v (expr b)) e)) in
      fold-roll-Expr ℕ (value_at reads one) l
      ∙ ap (λ (n : ℕ). word.applied operation n (value reads one (expr b))) in_a ∙ ap (λ (n : ℕ). word.applied operation (value reads other (expr a)) n) in_b
      ∙ sym (fold-roll-Expr ℕ (value_at reads other) l)
  by_layer X expr same (layer.Divide a c) used =
      let l = layer.Divide (expr a) c in
      fold-roll-Expr ℕ (value_at reads one) l ∙ ap (λ (n : ℕ). word.divide n c) (same a (λ v e. used v (fold-roll-Expr Bool (uses_at v) l ∙ e)))
      ∙ sym (fold-roll-Expr ℕ (value_at reads other) l)
  by_layer X expr same (layer.Remainder a c) used =
      let l = layer.Remainder (expr a) c in
      fold-roll-Expr ℕ (value_at reads one) l ∙ ap (λ (n : ℕ). word.remainder n c) (same a (λ v e. used v (fold-roll-Expr Bool (uses_at v) l ∙ e)))
      ∙ sym (fold-roll-Expr ℕ (value_at reads other) l)
  by_layer X expr same (layer.Select c a b) used =
      let l = layer.Select (expr c) (expr a) (expr b) in
      let in_c = same c (λ v e. used v (fold-roll-Expr Bool (uses_at v) l ∙ or_left (uses v (expr c) || uses v (expr a)) (uses v (expr b))
      (or_left (uses v (expr c)) (uses v (expr a)) e))) in
      let in_a = same a (λ v e. used v (fold-roll-Expr Bool (uses_at v) l ∙ or_left (uses v (expr c) || uses v (expr a)) (uses v (expr b))
      (or_right (uses v (expr c)) (uses v (expr a)) e))) in
      let in_b = same b (λ v e. used v (fold-roll-Expr Bool (uses_at v) l ∙ or_right (uses v (expr c) || uses v (expr a)) (uses v (expr b)) e)) in
      fold-roll-Expr ℕ (value_at reads one) l
      ∙ ap (λ (n : ℕ). cond (n == 0) (value reads one (expr b)) (value reads one (expr a))) in_c
      ∙ ap (λ (n : ℕ). cond (value reads other (expr c) == 0) n (value reads one (expr a))) in_b
      ∙ ap (λ (n : ℕ). cond (value reads other (expr c) == 0) (value reads other (expr b)) n) in_a
      ∙ sym (fold-roll-Expr ℕ (value_at reads other) l)
  by_layer X expr same (layer.Call1 s a) used =
      let l = layer.Call1 s (expr a) in
      fold-roll-Expr ℕ (value_at reads one) l ∙ ap (λ (n : ℕ). reads s n 0) (same a (λ v e. used v (fold-roll-Expr Bool (uses_at v) l ∙ e)))
      ∙ sym (fold-roll-Expr ℕ (value_at reads other) l)
  by_layer X expr same (layer.Call2 s a b) used =
      let l = layer.Call2 s (expr a) (expr b) in
      let in_a = same a (λ v e. used v (fold-roll-Expr Bool (uses_at v) l ∙ or_left (uses v (expr a)) (uses v (expr b)) e)) in
      let in_b = same b (λ v e. used v (fold-roll-Expr Bool (uses_at v) l ∙ or_right (uses v (expr a)) (uses v (expr b)) e)) in
      fold-roll-Expr ℕ (value_at reads one) l
      ∙ ap (λ (n : ℕ). reads s n (value reads one (expr b))) in_a ∙ ap (λ (n : ℕ). reads s (value reads other (expr a)) n) in_b
      ∙ sym (fold-roll-Expr ℕ (value_at reads other) l)

  pub same_value : (e : Expr) → Same e
  same_value = ind-Expr Same (λ x y is. subst (λ (l : Expr-F Expr). Same (roll-Expr l)) is (by_layer _ (λ e. e.0) (λ e. e.1) y))
