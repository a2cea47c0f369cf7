-- What more sources may be read keeps the rules of expressions.
use Rattle.std.proofs.Common.{◌≡◌, ℕ, Bool, true, sym, subst, ◌∙◌}
use Rattle.std.specs.Prelude.{◌&&◌}
use Rattle.std.proofs.lemmas.Bool.{and_parts, and_from}
use Rattle.halide_pipeline.specs.declared.expressions.Expr.{Expr, ind-Expr, fold-roll-Expr, roll-Expr, map-Expr}
use Rattle.halide_pipeline.specs.declared.expressions.Expr.TheOpen.{Expr-F}
use Rattle.halide_pipeline.specs.declared.expressions.Expr.TheOpen as layer
use Rattle.halide_pipeline.specs.declared.expressions.Operation.{Operation}
use Rattle.halide_pipeline.specs.declared.expressions.Source.{Source}
use Rattle.halide_pipeline.specs.declared.expressions.Variable.{Variable}
use Rattle.halide_pipeline.specs.WellFormed.{keeps, keeps_at, is_divisor}

module _ (reads more : Source → ℕ → Bool) (has : Variable → Bool) (grows : (s : Source) (n : ℕ) → reads s n ≡ true → more s n ≡ true) where
  abbrev Grows : Expr → Type 0
  Grows e = keeps reads has e ≡ true → keeps more has e ≡ true

  number_grows : (n : ℕ) → Grows (roll-Expr (layer.Number n))
  unfolding keeps
  number_grows n kept = let l = layer.Number n in fold-roll-Expr Bool (keeps_at more has) l ∙ sym (fold-roll-Expr Bool (keeps_at reads has) l) ∙ kept

  variable_grows : (v : Variable) → Grows (roll-Expr (layer.Variable v))
  unfolding keeps
  variable_grows v kept = let l = layer.Variable v in fold-roll-Expr Bool (keeps_at more has) l ∙ sym (fold-roll-Expr Bool (keeps_at reads has) l) ∙ kept

  binary_grows : (operation : Operation) (a b : Expr) → Grows a → Grows b → Grows (roll-Expr (layer.Binary operation a b))
  unfolding keeps
  binary_grows operation a b ga gb kept =
      let l = layer.Binary operation a b in
      let parts = and_parts (keeps reads has a) (keeps reads has b) (sym (fold-roll-Expr Bool (keeps_at reads has) l) ∙ kept) in
      fold-roll-Expr Bool (keeps_at more has) l ∙ and_from (keeps more has a) (keeps more has b) (ga parts.0) (gb parts.1)

  divide_grows : (a : Expr) (c : ℕ) → Grows a → Grows (roll-Expr (layer.Divide a c))
  unfolding keeps
  divide_grows a c ga kept =
      let l = layer.Divide a c in
      let parts = and_parts (keeps reads has a) (is_divisor c) (sym (fold-roll-Expr Bool (keeps_at reads has) l) ∙ kept) in
      fold-roll-Expr Bool (keeps_at more has) l ∙ and_from (keeps more has a) (is_divisor c) (ga parts.0) parts.1

  remainder_grows : (a : Expr) (c : ℕ) → Grows a → Grows (roll-Expr (layer.Remainder a c))
  unfolding keeps
  remainder_grows a c ga kept =
      let l = layer.Remainder a c in
      let parts = and_parts (keeps reads has a) (is_divisor c) (sym (fold-roll-Expr Bool (keeps_at reads has) l) ∙ kept) in
      fold-roll-Expr Bool (keeps_at more has) l ∙ and_from (keeps more has a) (is_divisor c) (ga parts.0) parts.1

  select_grows : (c a b : Expr) → Grows c → Grows a → Grows b → Grows (roll-Expr (layer.Select c a b))
  unfolding keeps
  select_grows c a b gc ga gb kept =
      let l = layer.Select c a b in
      let parts = and_parts (keeps reads has c) (keeps reads has a && keeps reads has b) (sym (fold-roll-Expr Bool (keeps_at reads has) l) ∙ kept) in
      let arms = and_parts (keeps reads has a) (keeps reads has b) parts.1 in
      fold-roll-Expr Bool (keeps_at more has) l
      ∙ and_from (keeps more has c) (keeps more has a && keeps more has b) (gc parts.0) (and_from (keeps more has a) (keeps more has b) (ga arms.0) (gb arms.1))

  call1_grows : (s : Source) (a : Expr) → Grows a → Grows (roll-Expr (layer.Call1 s a))
  unfolding keeps
  call1_grows s a ga kept =
      let l = layer.Call1 s a in
      let parts = and_parts (keeps reads has a) (reads s 1) (sym (fold-roll-Expr Bool (keeps_at reads has) l) ∙ kept) in
      fold-roll-Expr Bool (keeps_at more has) l ∙ and_from (keeps more has a) (more s 1) (ga parts.0) (grows s 1 parts.1)

  call2_grows : (s : Source) (a b : Expr) → Grows a → Grows b → Grows (roll-Expr (layer.Call2 s a b))
  unfolding keeps
  call2_grows s a b ga gb kept =
      let l = layer.Call2 s a b in
      let parts = and_parts (keeps reads has a && keeps reads has b) (reads s 2) (sym (fold-roll-Expr Bool (keeps_at reads has) l) ∙ kept) in
      let indexes = and_parts (keeps reads has a) (keeps reads has b) parts.0 in
      fold-roll-Expr Bool (keeps_at more has) l
      ∙ and_from (keeps more has a && keeps more has b) (more s 2) (and_from (keeps more has a) (keeps more has b) (ga indexes.0) (gb indexes.1))
      (grows s 2 parts.1)

  by_layer : (X : Type 0) (expr : X → Expr) → ((part : X) → Grows (expr part)) → (y : Expr-F X) → Grows (roll-Expr (map-Expr X Expr expr y))
  by_layer X expr grow (layer.Number n) = number_grows n
  by_layer X expr grow (layer.Variable v) = variable_grows v
  by_layer X expr grow (layer.Binary operation a b) = binary_grows operation (expr a) (expr b) (grow a) (grow b)
  by_layer X expr grow (layer.Divide a c) = divide_grows (expr a) c (grow a)
  by_layer X expr grow (layer.Remainder a c) = remainder_grows (expr a) c (grow a)
  by_layer X expr grow (layer.Select c a b) = select_grows (expr c) (expr a) (expr b) (grow c) (grow a) (grow b)
  by_layer X expr grow (layer.Call1 s a) = call1_grows s (expr a) (grow a)
  by_layer X expr grow (layer.Call2 s a b) = call2_grows s (expr a) (expr b) (grow a) (grow b)

  pub keeps-grows : (e : Expr) → Grows e
  keeps-grows = ind-Expr Grows (λ x y is. subst (λ (l : Expr-F Expr). Grows (roll-Expr l)) is (by_layer _ (λ e. e.0) (λ e. e.1) y))
