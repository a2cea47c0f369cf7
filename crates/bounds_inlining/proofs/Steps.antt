-- What is made of an expression through inlined Funcs, at each variant, and by what that ends.
use Rattle.std.proofs.Common.{◌≡◌, ◌<◌, ◌≤◌, ◌+◌, ◌*◌, ℕ, zero, suc, Bool, true, false, List, [], ◌∷◌, None, Some, sym, ap, ◌∙◌, refl, arith, inl, inr}
use Rattle.std.specs.Prelude.{◌==◌, ◌&&◌, cond, nat_lt, slice_get}
use Rattle.std.proofs.lemmas.Bool.{ltb-true, ltb-false, cases_eq}
use Rattle.std.proofs.lemmas.Bool.Decides.{nat_tests}
use Rattle.std.proofs.Math.Nat.{mul-le-mul_right}
use Rattle.halide_pipeline.specs.declared.definitions.Func.{Func}
use Rattle.halide_pipeline.specs.declared.expressions.Expr.{Expr}
use Rattle.halide_pipeline.specs.declared.expressions.Expr.TheOpen as layer
use Rattle.halide_pipeline.specs.declared.expressions.Expr.TheVariants as e
use Rattle.halide_pipeline.specs.declared.expressions.Operation.{Operation}
use Rattle.halide_pipeline.specs.declared.expressions.Source.{Source}
use Rattle.halide_pipeline.specs.declared.expressions.Variable.{Variable}
use Rattle.halide_pipeline.specs.Expressions.{nodes, nodes_at}
use Rattle.halide_pipeline.proofs.Trees.{at_number, at_variable, at_binary, at_divide, at_remainder, at_select, at_call1, at_call2}
use Rattle.bounds_inlining.specs.Inlining.{Algebra, Inside, answer, answered, through, through_at, inside, made_in, func_in}
use Rattle.bounds_inlining.proofs.Kept.{inside_computed}

module _ {A : Type 0} (algebra : Algebra A) (within : Inside A) (variables : Variable → A) (expr : Expr) where
  abbrev of : Expr → A
  of e = through algebra within variables e

  pub of_number : (n : ℕ) → expr ≡ e.Number n → of expr ≡ algebra.level (layer.Number n)
  unfolding through
  of_number n is = ap of is ∙ at_number A (through_at algebra within variables) n

  pub of_variable : (v : Variable) → expr ≡ e.Variable v → of expr ≡ variables v
  unfolding through
  of_variable v is = ap of is ∙ at_variable A (through_at algebra within variables) v

  pub of_binary : (op : Operation) (a b : Expr) → expr ≡ e.Binary op a b → of expr ≡ algebra.level (layer.Binary op (of a) (of b))
  unfolding through
  of_binary op a b is = ap of is ∙ at_binary A (through_at algebra within variables) op a b

  pub of_divide : (a : Expr) (n : ℕ) → expr ≡ e.Divide a n → of expr ≡ algebra.level (layer.Divide (of a) n)
  unfolding through
  of_divide a n is = ap of is ∙ at_divide A (through_at algebra within variables) a n

  pub of_remainder : (a : Expr) (n : ℕ) → expr ≡ e.Remainder a n → of expr ≡ algebra.level (layer.Remainder (of a) n)
  unfolding through
  of_remainder a n is = ap of is ∙ at_remainder A (through_at algebra within variables) a n

  pub of_select : (c a b : Expr) → expr ≡ e.Select c a b → of expr ≡ algebra.level (layer.Select (of c) (of a) (of b))
  unfolding through
  of_select c a b is = ap of is ∙ at_select A (through_at algebra within variables) c a b

  pub of_call1 : (s : Source) (a : Expr) → expr ≡ e.Call1 s a → of expr ≡ answered (algebra.level (layer.Call1 s (of a))) (of a) None (answer within s)
  unfolding through
  of_call1 s a is = ap of is ∙ at_call1 A (through_at algebra within variables) s a

  pub of_call2 : (s : Source) (a b : Expr) → expr ≡ e.Call2 s a b → of expr ≡ answered (algebra.level (layer.Call2 s (of a) (of b))) (of a) (Some (of b))
      (answer within s)
  unfolding through
  of_call2 s a b is = ap of is ∙ at_call2 A (through_at algebra within variables) s a b

-- ---- what answers calls

module _ {A : Type 0} (algebra : Algebra A) (is_inlined : ℕ → Bool) (funcs : List Func) where
  -- a Func that is too late
  pub inside_past : (count func_index : ℕ) → count ≤ func_index
      → inside algebra is_inlined funcs count func_index ≡ None
  unfolding inside
  inside_past zero func_index past = refl
  inside_past (suc count) func_index past =
      let test : (func_index == count) ≡ false = grind (arith, nat_tests, past) in
      rw test (by_test (is_inlined func_index) (inside_past count func_index (omega (arith, past))))
    where
      by_test : (b : Bool) → inside algebra is_inlined funcs count func_index ≡ None
          → cond (b && false) (made_in algebra (inside algebra is_inlined funcs count) (slice_get funcs count)) (inside algebra is_inlined funcs count func_index)
          ≡ None
      by_test true e = e
      by_test false e = e

  pub inside_before : (count func_index : ℕ) → func_index < count → is_inlined func_index ≡ true
      → inside algebra is_inlined funcs count func_index ≡ made_in algebra (inside algebra is_inlined funcs func_index) (slice_get funcs func_index)
  unfolding inside
  inside_before zero func_index before is = absurd (omega (arith, before))
  inside_before (suc count) func_index before is = elim (cases_eq func_index count) [
    | inl same ↦
        let test : (func_index == count) ≡ true = grind (arith, nat_tests) in
        rw is (rw test (ap (λ (at : ℕ). made_in algebra (inside algebra is_inlined funcs at) (slice_get funcs at)) (sym same)))
    | inr other ↦
        let test : (func_index == count) ≡ false = grind (arith, nat_tests, other) in
        rw is (rw test (inside_before count func_index (omega (arith, other, before)) is))
  ]

  -- a call of a Func, by what stands for it
  pub inside_is : (count func_index : ℕ) → inside algebra is_inlined funcs count func_index ≡ made_in algebra (inside algebra is_inlined funcs func_index)
      (func_in funcs is_inlined count func_index)
  inside_is count func_index = by_flag (is_inlined func_index) (nat_lt func_index count) refl refl
    where
      by_flag : (flag before : Bool) → is_inlined func_index ≡ flag → nat_lt func_index count ≡ before
          → inside algebra is_inlined funcs count func_index ≡ made_in algebra (inside algebra is_inlined funcs func_index) (cond (nat_lt func_index count && is_inlined func_index)
          (slice_get funcs func_index) None)
      by_flag true true f b = rw b (rw f (inside_before count func_index (ltb-true func_index count b) f))
      by_flag false true f b = rw b (rw f (inside_computed algebra is_inlined funcs count func_index f))
      by_flag flag false f b = rw b (inside_past count func_index (ltb-false func_index count b))

-- a Func that is there is one of the first this many
pub func_in_parts : (funcs : List Func) (is_inlined : ℕ → Bool) (count func_index : ℕ) (func : Func) → func_in funcs is_inlined count func_index ≡ Some func
    → (func_index < count) × (slice_get funcs func_index ≡ Some func)
func_in_parts funcs is_inlined count func_index func found = by_test (nat_lt func_index count) (is_inlined func_index)
    refl found
  where
    by_test : (before flag : Bool) → nat_lt func_index count ≡ before → cond (before && flag) (slice_get funcs func_index) None ≡ Some func
        → (func_index < count) × (slice_get funcs func_index ≡ Some func)
    by_test true true b is = (ltb-true func_index count b, is)
    by_test true false b is = absurd cc
    by_test false flag b is = absurd cc

-- ---- by what it ends

-- how many nodes the pure definitions have
abbrev pub pure_nodes : List Func → ℕ
pure_nodes [] = 0
pure_nodes (func ∷ funcs) = nodes func.pure + pure_nodes funcs

-- the place up to which Funcs are called, then the size of the expression
unfoldable pub size : List Func → ℕ → ℕ → ℕ
size funcs count n = count * (pure_nodes funcs + 1) + n

pub less_size : (funcs : List Func) (count n m : ℕ) → n < m → size funcs count n < size funcs count m
unfolding size
less_size funcs count n m less = omega (arith, less)

pub less_place : (funcs : List Func) (func_index count n m : ℕ) → func_index < count → n ≤ pure_nodes funcs → size funcs func_index n < size funcs count m
unfolding size
less_place funcs func_index count n m less few =
    let width = pure_nodes funcs + 1 in
    let more : suc func_index * width ≤ count * width = mul-le-mul_right width less in
    let one : suc func_index * width ≡ func_index * width + width = omega arith in
    omega (arith, more, one, few)

pub few_nodes : (funcs : List Func) (func_index : ℕ) (func : Func) → slice_get funcs func_index ≡ Some func → nodes func.pure ≤ pure_nodes funcs
few_nodes [] func_index func is = absurd cc
few_nodes (first ∷ funcs) zero func is =
    let e : first ≡ func = cc in
    let n : nodes first.pure ≡ nodes func.pure = ap (λ (f : Func). nodes f.pure) e in
    omega (arith, n)
few_nodes (first ∷ funcs) (suc func_index) func is = let r = few_nodes funcs func_index func is in omega (arith, r)

module _ (expr : Expr) where
  pub nodes-Binary : (operation : Operation) (a b : Expr) → expr ≡ e.Binary operation a b → nodes expr ≡ 1 + nodes a + nodes b
  unfolding nodes
  nodes-Binary operation a b is = ap nodes is ∙ at_binary ℕ nodes_at operation a b

  pub nodes-Divide : (a : Expr) (c : ℕ) → expr ≡ e.Divide a c → nodes expr ≡ 2 + nodes a
  unfolding nodes
  nodes-Divide a c is = ap nodes is ∙ at_divide ℕ nodes_at a c

  pub nodes-Remainder : (a : Expr) (c : ℕ) → expr ≡ e.Remainder a c → nodes expr ≡ 2 + nodes a
  unfolding nodes
  nodes-Remainder a c is = ap nodes is ∙ at_remainder ℕ nodes_at a c

  pub nodes-Select : (c a b : Expr) → expr ≡ e.Select c a b → nodes expr ≡ 1 + nodes c + nodes a + nodes b
  unfolding nodes
  nodes-Select c a b is = ap nodes is ∙ at_select ℕ nodes_at c a b

  pub nodes-Call1 : (s : Source) (a : Expr) → expr ≡ e.Call1 s a → nodes expr ≡ 1 + nodes a
  unfolding nodes
  nodes-Call1 s a is = ap nodes is ∙ at_call1 ℕ nodes_at s a

  pub nodes-Call2 : (s : Source) (a b : Expr) → expr ≡ e.Call2 s a b → nodes expr ≡ 1 + nodes a + nodes b
  unfolding nodes
  nodes-Call2 s a b is = ap nodes is ∙ at_call2 ℕ nodes_at s a b
